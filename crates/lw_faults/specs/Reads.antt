-- How many tokens an element may read, and what it may come to before any token, where each call that means no parser rule reads one.
use Rattle.std.specs.Prelude.{ℕ, ◌≡◌, ◌+◌, List, [], ◌∷◌, Some, None, Contains, slice_get}
use Rattle.lw_base.specs.declared.token.Span.{Span}
use Rattle.lw_grammar.specs.declared.grammar.Grammar.{Grammar}
use Rattle.lw_grammar.specs.declared.rule.Element.{Element, out-Element}
use Rattle.lw_grammar.specs.declared.rule.Element.TheOpen.{Element-F, Keyword, Call, Assign, Act, Group, Choice, Maybe, Many, Some1}
use Rattle.lw_grammar.specs.declared.rule.Value0.{Value0, out-Value0}
use Rattle.lw_grammar.specs.declared.rule.Value0.TheOpen as value
use Rattle.lw_grammar.specs.declared.rule.Value0.TheOpen.{Value0-F}
use Rattle.lw_grammar.specs.declared.rule.Op.{Op}
use Rattle.lw_grammar.specs.declared.rule.Rule.{Rule}
use Rattle.lw_grammar.specs.declared.rule.Action.{Action}
use Rattle.lw_grammar.specs.Named.{IsRule}
use Rattle.lw_grammar.specs.NameRules.{IsNameRule}

module _ (g : Grammar) where
  -- a terminal, a fragment of terminals, or nothing has this name
  abbrev pub IsTokenCall : List ℕ → Type 0
  IsTokenCall name = (r : ℕ) (rule : Rule) → ¬ IsRule g name r rule

  mutual
    -- the element may read so many tokens
    pub data MayRead : Element → ℕ → Type 0 where
      reads : {e : Element} {n : ℕ} → ReadsLayer (out-Element e) n → MayRead e n

    pub data ReadsLayer : Element-F Element → ℕ → Type 0 where
      keyword : {text : List ℕ} {s : Span} → ReadsLayer (Keyword text s) 1
      called : {name : List ℕ} {s : Span} {n : ℕ} → CallReads name n → ReadsLayer (Call name s) n
      assigned : {p : List ℕ} {op : Op} {v : Value0} {s : Span} {n : ℕ} → ValueReads v n → ReadsLayer (Assign p op v s) n
      acted : {a : Action} → ReadsLayer (Act a) 0
      grouped : {es : List Element} {s : Span} {n : ℕ} → ReadsAll es n → ReadsLayer (Group es s) n
      chosen : {es : List Element} {s : Span} {e : Element} {n : ℕ} → Contains es e → MayRead e n → ReadsLayer (Choice es s) n
      skipped : {e : Element} {s : Span} → ReadsLayer (Maybe e s) 0
      taken : {e : Element} {s : Span} {n : ℕ} → MayRead e n → ReadsLayer (Maybe e s) n
      repeated : {e : Element} {s : Span} {n : ℕ} → ReadsAgain e n → ReadsLayer (Many e s) n
      repeated_once : {e : Element} {s : Span} {m n : ℕ} → MayRead e m → ReadsAgain e n → ReadsLayer (Some1 e s) (m + n)

    -- each of a row, in order
    pub data ReadsAll : List Element → ℕ → Type 0 where
      none : ReadsAll [] 0
      more : {e : Element} {es : List Element} {m n : ℕ} → MayRead e m → ReadsAll es n → ReadsAll (e ∷ es) (m + n)

    -- the same element any number of times
    pub data ReadsAgain : Element → ℕ → Type 0 where
      stop : {e : Element} → ReadsAgain e 0
      again : {e : Element} {m n : ℕ} → MayRead e m → ReadsAgain e n → ReadsAgain e (m + n)

    -- a call by name
    pub data CallReads : List ℕ → ℕ → Type 0 where
      token : {name : List ℕ} → IsTokenCall name → CallReads name 1
      rule_ : {name : List ℕ} {n : ℕ} (r : ℕ) (rule : Rule) → IsRule g name r rule → MayRead rule.body n → CallReads name n

    pub data ValueReads : Value0 → ℕ → Type 0 where
      value_reads : {v : Value0} {n : ℕ} → ValueReadsLayer (out-Value0 v) n → ValueReads v n

    pub data ValueReadsLayer : Value0-F Value0 → ℕ → Type 0 where
      keyword_value : {text : List ℕ} {s : Span} → ValueReadsLayer (value.Keyword text s) 1
      call_value : {name : List ℕ} {s : Span} {n : ℕ} → CallReads name n → ValueReadsLayer (value.Call name s) n
      cross_value : {wanted name : List ℕ} {s : Span} {n : ℕ} → CallReads name n → ValueReadsLayer (value.Cross wanted (Some name) s) n
      cross_by_name : {wanted : List ℕ} {s : Span} {n : ℕ} (name : List ℕ) → IsNameRule g wanted name → CallReads name n →
          ValueReadsLayer (value.Cross wanted None s) n
      cross_by_none : {wanted : List ℕ} {s : Span} → ((name : List ℕ) → ¬ IsNameRule g wanted name) → ValueReadsLayer (value.Cross wanted None s) 1
      chosen_value : {vs : List Value0} {s : Span} {v : Value0} {n : ℕ} → Contains vs v → ValueReads v n → ValueReadsLayer (value.Choice vs s) n

  mutual
    -- the value may come to a call of this name, and before it there is no token
    pub data ValueLeads : Value0 → List ℕ → Type 0 where
      value_leads : {v : Value0} {name : List ℕ} → ValueLeadsLayer (out-Value0 v) name → ValueLeads v name

    pub data ValueLeadsLayer : Value0-F Value0 → List ℕ → Type 0 where
      call_value : {name : List ℕ} {s : Span} → ValueLeadsLayer (value.Call name s) name
      cross_value : {wanted name : List ℕ} {s : Span} → ValueLeadsLayer (value.Cross wanted (Some name) s) name
      cross_by_name : {wanted : List ℕ} {s : Span} (name : List ℕ) → IsNameRule g wanted name → ValueLeadsLayer (value.Cross wanted None s) name
      chosen_value : {vs : List Value0} {s : Span} {v : Value0} {name : List ℕ} → Contains vs v → ValueLeads v name → ValueLeadsLayer (value.Choice vs s) name

  mutual
    -- the element may come to a call of this name before it reads any token
    pub data Leads : Element → List ℕ → Type 0 where
      leads : {e : Element} {name : List ℕ} → LeadsLayer (out-Element e) name → Leads e name

    pub data LeadsLayer : Element-F Element → List ℕ → Type 0 where
      called : {name : List ℕ} {s : Span} → LeadsLayer (Call name s) name
      assigned : {p : List ℕ} {op : Op} {v : Value0} {s : Span} {name : List ℕ} → ValueLeads v name → LeadsLayer (Assign p op v s) name
      grouped : {es : List Element} {s : Span} {name : List ℕ} → LeadsAll es name → LeadsLayer (Group es s) name
      chosen : {es : List Element} {s : Span} {e : Element} {name : List ℕ} → Contains es e → Leads e name → LeadsLayer (Choice es s) name
      taken : {e : Element} {s : Span} {name : List ℕ} → Leads e name → LeadsLayer (Maybe e s) name
      repeated : {e : Element} {s : Span} {name : List ℕ} → Leads e name → LeadsLayer (Many e s) name
      repeated_once : {e : Element} {s : Span} {name : List ℕ} → Leads e name → LeadsLayer (Some1 e s) name

    -- of a row, in order: its first may come to it, or reads nothing, and one of the others may
    pub data LeadsAll : List Element → List ℕ → Type 0 where
      first : {e : Element} {es : List Element} {name : List ℕ} → Leads e name → LeadsAll (e ∷ es) name
      later : {e : Element} {es : List Element} {name : List ℕ} → MayRead e 0 → LeadsAll es name → LeadsAll (e ∷ es) name

  -- By their numbers: the first rule may come to the second before it reads any token, over one call or more.
  pub data ComesFirstTo : ℕ → ℕ → Type 0 where
    directly : {q r : ℕ} (caller rule : Rule) (name : List ℕ) → slice_get g.rules q ≡ Some caller → Leads caller.body name → IsRule g name r rule → ComesFirstTo q r
    over : {p q r : ℕ} → ComesFirstTo p q → ComesFirstTo q r → ComesFirstTo p r
