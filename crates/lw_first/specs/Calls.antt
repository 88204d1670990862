-- What stands behind the calls of rules in a part, where it is known what stands behind the part.
use Rattle.std.specs.Prelude.{ℕ, ◌≡◌, ◌+◌, List, Some, Contains, drop, slice_get}
use Rattle.lw_base.specs.declared.token.Span.{Span}
use Rattle.lw_grammar.specs.declared.grammar.Grammar.{Grammar}
use Rattle.lw_grammar.specs.declared.rule.Element.{Element, out-Element}
use Rattle.lw_grammar.specs.declared.rule.Element.TheOpen as layer
use Rattle.lw_grammar.specs.declared.rule.Value0.{Value0, out-Value0}
use Rattle.lw_grammar.specs.declared.rule.Value0.TheOpen as value
use Rattle.lw_grammar.specs.declared.rule.Op.{Op}
use Rattle.lw_grammar.specs.declared.rule.Rule.{Rule}
use Rattle.lw_grammar.specs.Named.{IsRule}
use Rattle.lw_grammar.specs.Kinds.{Kinds}
use Rattle.lw_look.specs.Sites.{Part, Body, Value}
use Rattle.lw_look.specs.Heads.{RowCan, ManyCan}
use Rattle.lw_look.specs.ReadBy.{PartReadsBy}
use Rattle.lw_first.specs.declared.heads.head.Head.{Head}
use Rattle.lw_first.specs.Sets.{IsAmongHeads, IsInSet}

module _ (g : Grammar) (kinds : Kinds) (k : ℕ) (sets : List (List Head)) where
  -- `BehindCall x a r h`: where the head a stands behind the part x, the head h may stand behind a call of rule r in it. `sets` has for
  -- each rule its heads
  pub data BehindCall : Part → List ℕ → ℕ → List ℕ → Type 0 where
    called : {x : Part} {name : List ℕ} {r : ℕ} {rule : Rule} {a : List ℕ} → PartReadsBy g x name → IsRule g name r rule → BehindCall x a r a
    assigned : {e : Element} {p : List ℕ} {op : Op} {v : Value0} {s : Span} {a : List ℕ} {r : ℕ} {h : List ℕ} →
        out-Element e ≡ layer.Assign p op v s → BehindCall (Value v) a r h → BehindCall (Body e) a r h
    in_row : {e f : Element} {es : List Element} {s : Span} {a b : List ℕ} {r : ℕ} {h : List ℕ} (i : ℕ) → out-Element e ≡ layer.Group es s →
        slice_get es i ≡ Some f → RowCan g kinds k (IsInSet sets) (drop (i + 1) es) a b → BehindCall (Body f) b r h →
        BehindCall (Body e) a r h
    chosen : {e f : Element} {es : List Element} {s : Span} {a : List ℕ} {r : ℕ} {h : List ℕ} → out-Element e ≡ layer.Choice es s →
        Contains es f → BehindCall (Body f) a r h → BehindCall (Body e) a r h
    chosen_value : {v w : Value0} {vs : List Value0} {s : Span} {a : List ℕ} {r : ℕ} {h : List ℕ} → out-Value0 v ≡ value.Choice vs s →
        Contains vs w → BehindCall (Value w) a r h → BehindCall (Value v) a r h
    optional : {e f : Element} {s : Span} {a : List ℕ} {r : ℕ} {h : List ℕ} → out-Element e ≡ layer.Maybe f s →
        BehindCall (Body f) a r h → BehindCall (Body e) a r h
    any : {e f : Element} {s : Span} {a b : List ℕ} {r : ℕ} {h : List ℕ} → out-Element e ≡ layer.Many f s →
        ManyCan g kinds k (IsInSet sets) f a b → BehindCall (Body f) b r h → BehindCall (Body e) a r h
    some : {e f : Element} {s : Span} {a b : List ℕ} {r : ℕ} {h : List ℕ} → out-Element e ≡ layer.Some1 f s →
        ManyCan g kinds k (IsInSet sets) f a b → BehindCall (Body f) b r h → BehindCall (Body e) a r h

  -- one of the heads stands behind the part
  abbrev pub BehindCalls : Part → List Head → ℕ → List ℕ → Type 0
  BehindCalls x after r h = (a : List ℕ) × IsAmongHeads after a × BehindCall x a r h

  -- one of the heads in the set of its number stands behind a part of a row
  abbrev pub BehindRowCalls : List Element → List (List Head) → ℕ → List ℕ → Type 0
  BehindRowCalls parts behind r h = (i : ℕ) × (part : Element) × (slice_get parts i ≡ Some part) × (b : List ℕ) × IsInSet behind i b × BehindCall (Body part) b r h

-- behind a call by name stands what stands behind it
abbrev pub BehindName : Grammar → List ℕ → List Head → ℕ → List ℕ → Type 0
BehindName g name after r h = IsAmongHeads after h × (rule : Rule) × IsRule g name r rule
