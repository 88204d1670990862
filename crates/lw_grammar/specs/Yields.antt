-- What an element of a grammar may give, as lists of marks: the least relation with these cases.
-- Held against the Langium documentation, "Grammar language": alternatives, cardinalities, assignments, actions, fragments,
-- data type rules and cross-references.
use Rattle.std.specs.Prelude.{ℕ, ◌≡◌, List, [], ◌∷◌, ◌++◌, Some, None, true, false, Contains}
use Rattle.lw_base.specs.declared.token.Span.{Span}
use Rattle.lw_grammar.specs.declared.grammar.Grammar.{Grammar}
use Rattle.lw_grammar.specs.declared.rule.Element.{Element, out-Element}
use Rattle.lw_grammar.specs.declared.rule.Element.TheOpen.{Element-F, Keyword, Call, Assign, Act, Group, Choice, Maybe, Many, Some1}
use Rattle.lw_grammar.specs.declared.rule.Value0.{Value0, out-Value0}
use Rattle.lw_grammar.specs.declared.rule.Value0.TheOpen as value
use Rattle.lw_grammar.specs.declared.rule.Value0.TheOpen.{Value0-F}
use Rattle.lw_grammar.specs.declared.rule.Op.{Op}
use Rattle.lw_grammar.specs.declared.rule.Rule.{Rule}
use Rattle.lw_grammar.specs.declared.rule.Action.{Action}
use Rattle.lw_grammar.specs.Named.{IsRule}
use Rattle.lw_grammar.specs.Nodes.{MakesNodes}
use Rattle.lw_grammar.specs.NameRules.{IsNameRule}
use Rattle.lw_grammar.specs.Kinds.{Kinds, IsKeywordKind, IsTerminalKind}
use Rattle.lw_grammar.specs.Marks.{Mark}
use Rattle.lw_grammar.specs.Marks as mark

module _ (g : Grammar) (kinds : Kinds) where
  mutual
    pub data Yields : Element → List Mark → Type 0 where
      yields : {e : Element} {m : List Mark} → Gives (out-Element e) m → Yields e m

    -- one layer of an element: `?` is none or one, `*` any number, `+` at least one
    pub data Gives : Element-F Element → List Mark → Type 0 where
      keyword : {text : List ℕ} {s : Span} {k : ℕ} → IsKeywordKind kinds text k → Gives (Keyword text s) (mark.Token k ∷ [])
      called : {name : List ℕ} {s : Span} {m : List Mark} → Calls name m → Gives (Call name s) m
      assigned : {p : List ℕ} {op : Op} {v c : Value0} {s : Span} {m : List Mark} → ValueYields v c m → Gives (Assign p op v s) (mark.Put p op c ∷ m ++ mark.End ∷ [])
      acted : {a : Action} → Gives (Act a) (mark.Act a ∷ [])
      grouped : {es : List Element} {s : Span} {m : List Mark} → YieldsAll es m → Gives (Group es s) m
      chosen : {es : List Element} {s : Span} {e : Element} {m : List Mark} → Contains es e → Yields e m → Gives (Choice es s) m
      skipped : {e : Element} {s : Span} → Gives (Maybe e s) []
      taken : {e : Element} {s : Span} {m : List Mark} → Yields e m → Gives (Maybe e s) m
      repeated : {e : Element} {s : Span} {m : List Mark} → Repeats e m → Gives (Many e s) m
      repeated_once : {e : Element} {s : Span} {m n : List Mark} → Yields e m → Repeats e n → Gives (Some1 e s) (m ++ n)

    -- each of a row, in order
    pub data YieldsAll : List Element → List Mark → Type 0 where
      none : YieldsAll [] []
      more : {e : Element} {es : List Element} {m n : List Mark} → Yields e m → YieldsAll es n → YieldsAll (e ∷ es) (m ++ n)

    -- the same element any number of times
    pub data Repeats : Element → List Mark → Type 0 where
      stop : {e : Element} → Repeats e []
      again : {e : Element} {m n : List Mark} → Yields e m → Repeats e n → Repeats e (m ++ n)

    -- a call by name, of a terminal or a rule
    pub data Calls : List ℕ → List Mark → Type 0 where
      terminal : {name : List ℕ} {k : ℕ} → IsTerminalKind g kinds name k → Calls name (mark.Token k ∷ [])
      rule_ : {name : List ℕ} {m : List Mark} (r : ℕ) (rule : Rule) → IsRule g name r rule → RuleGives r rule m → Calls name m

    -- a call of the rule of this number: fragments and data type rules give what their body gives, others a node of it
    pub data RuleGives : ℕ → Rule → List Mark → Type 0 where
      fragment : {r : ℕ} {rule : Rule} {m : List Mark} → rule.is_fragment ≡ true → Yields rule.body m → RuleGives r rule m
      data_type : {r : ℕ} {rule : Rule} {m : List Mark} → rule.is_fragment ≡ false → ¬ MakesNodes g rule → Yields rule.body m → RuleGives r rule m
      node : {r : ℕ} {rule : Rule} {m : List Mark} → rule.is_fragment ≡ false → MakesNodes g rule → Yields rule.body m →
          RuleGives r rule (mark.Open r ∷ m ++ mark.Shut ∷ [])

    -- `ValueYields v c m`: the value v may give the marks m, having read its keyword, call or cross-reference c
    pub data ValueYields : Value0 → Value0 → List Mark → Type 0 where
      reads : {v c : Value0} {m : List Mark} → ValueGives v (out-Value0 v) c m → ValueYields v c m

    pub data ValueGives : Value0 → Value0-F Value0 → Value0 → List Mark → Type 0 where
      keyword_value : {v : Value0} {text : List ℕ} {s : Span} {k : ℕ} → IsKeywordKind kinds text k → ValueGives v (value.Keyword text s) v (mark.Token k ∷ [])
      call_value : {v : Value0} {name : List ℕ} {s : Span} {m : List Mark} → Calls name m → ValueGives v (value.Call name s) v m
      cross_value : {v : Value0} {wanted name : List ℕ} {s : Span} {m : List Mark} → Calls name m → ValueGives v (value.Cross wanted (Some name) s) v m
      cross_by_name : {v : Value0} {wanted : List ℕ} {s : Span} {m : List Mark} (name : List ℕ) → IsNameRule g wanted name → Calls name m →
          ValueGives v (value.Cross wanted None s) v m
      chosen_value : {v : Value0} {vs : List Value0} {s : Span} {w c : Value0} {m : List Mark} → Contains vs w → ValueYields w c m →
          ValueGives v (value.Choice vs s) c m
