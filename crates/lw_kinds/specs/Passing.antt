-- What passes, in words of the code: the parts of rules that may read no token, or that may read any number of tokens, where flags say it of the
-- rules that they call.
use Rattle.std.specs.Prelude.{ℕ, ◌≡◌, List, [], ◌∷◌, Bool, true, false, Option, Some, IsTrue, slice_get}
use Rattle.lw_base.specs.declared.token.Span.{Span}
use Rattle.lw_grammar.specs.declared.grammar.Grammar.{Grammar}
use Rattle.lw_grammar.specs.declared.rule.Element.{Element, out-Element}
use Rattle.lw_grammar.specs.declared.rule.Element.TheOpen.{Element-F, Keyword, Call, Assign, Act, Group, Choice, Maybe, Many, Some1}
use Rattle.lw_grammar.specs.declared.rule.Value0.{Value0, out-Value0}
use Rattle.lw_grammar.specs.declared.rule.Value0.TheOpen as value
use Rattle.lw_grammar.specs.declared.rule.Value0.TheOpen.{Value0-F}
use Rattle.lw_grammar.specs.declared.rule.Op.{Op}
use Rattle.lw_grammar.specs.declared.rule.Rule.{Rule}
use Rattle.lw_grammar.specs.declared.rule.Action.{Action}
use Rattle.lw_grammar.specs.Named.{IsRule}
use Rattle.lw_faults.specs.Reads.{IsTokenCall, MayRead}
use Rattle.lw_graph.specs.Walks.{HasNode}
use Rattle.lw_kinds.specs.Crossing.{IsReadBy}

-- so many tokens may be read: any number, or none
abbrev pub Admits : Bool → ℕ → Type 0
Admits true n = Unit {0}
Admits false n = n ≡ 0

module _ (g : Grammar) (tokens : Bool) where
  -- the element may read any number of tokens, or none
  abbrev pub MayPass : Element → Type 0
  MayPass e = (n : ℕ) × Admits tokens n × MayRead g e n

  module _ (flags : List Bool) where
    -- a call by name
    pub data CallPasses (name : List ℕ) : Type 0 where
      token : IsTrue tokens → IsTokenCall g name → CallPasses name
      rule_ : (r : ℕ) (rule : Rule) → IsRule g name r rule → HasNode flags r → CallPasses name

    -- a cross-reference
    pub data CrossPasses (wanted : List ℕ) (rule : Option (List ℕ)) : Type 0 where
      by_name : (name : List ℕ) → IsReadBy g wanted rule name → CallPasses name → CrossPasses wanted rule
      by_none : IsTrue tokens → ((name : List ℕ) → ¬ IsReadBy g wanted rule name) → CrossPasses wanted rule

    mutual
      pub data ValuePasses : Value0 → Type 0 where
        value_passes : {v : Value0} → ValuePassesLayer (out-Value0 v) → ValuePasses v

      pub data ValuePassesLayer : Value0-F Value0 → Type 0 where
        keyword_value : {text : List ℕ} {s : Span} → IsTrue tokens → ValuePassesLayer (value.Keyword text s)
        call_value : {name : List ℕ} {s : Span} → CallPasses name → ValuePassesLayer (value.Call name s)
        cross_value : {wanted : List ℕ} {rule : Option (List ℕ)} {s : Span} → CrossPasses wanted rule → ValuePassesLayer (value.Cross wanted rule s)
        chosen_value : {vs : List Value0} {s : Span} → SomeValuePasses vs → ValuePassesLayer (value.Choice vs s)

      pub data SomeValuePasses : List Value0 → Type 0 where
        this : {v : Value0} {vs : List Value0} → ValuePasses v → SomeValuePasses (v ∷ vs)
        other : {v : Value0} {vs : List Value0} → SomeValuePasses vs → SomeValuePasses (v ∷ vs)

    mutual
      pub data Passes : Element → Type 0 where
        passes : {e : Element} → PassesLayer (out-Element e) → Passes e

      pub data PassesLayer : Element-F Element → Type 0 where
        keyword : {text : List ℕ} {s : Span} → IsTrue tokens → PassesLayer (Keyword text s)
        called : {name : List ℕ} {s : Span} → CallPasses name → PassesLayer (Call name s)
        assigned : {p : List ℕ} {op : Op} {v : Value0} {s : Span} → ValuePasses v → PassesLayer (Assign p op v s)
        acted : {a : Action} → PassesLayer (Act a)
        grouped : {es : List Element} {s : Span} → EachPasses es → PassesLayer (Group es s)
        chosen : {es : List Element} {s : Span} → SomePass es → PassesLayer (Choice es s)
        skipped : {e : Element} {s : Span} → PassesLayer (Maybe e s)
        repeated : {e : Element} {s : Span} → PassesLayer (Many e s)
        repeated_once : {e : Element} {s : Span} → Passes e → PassesLayer (Some1 e s)

      pub data EachPasses : List Element → Type 0 where
        none : EachPasses []
        more : {e : Element} {es : List Element} → Passes e → EachPasses es → EachPasses (e ∷ es)

      pub data SomePass : List Element → Type 0 where
        this : {e : Element} {es : List Element} → Passes e → SomePass (e ∷ es)
        other : {e : Element} {es : List Element} → SomePass es → SomePass (e ∷ es)

    -- a rule has its flag only where its body may be read so
    abbrev pub IsJust : Type 0
    IsJust = (r : ℕ) (rule : Rule) → slice_get g.rules r ≡ Some rule → HasNode flags r → MayPass rule.body

    -- the rule has its flag where its body passes
    abbrev pub IsSettledAt : ℕ → Type 0
    IsSettledAt r = (rule : Rule) → slice_get g.rules r ≡ Some rule → Passes rule.body → HasNode flags r
