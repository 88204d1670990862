-- That what a tree holds stands in the text that it was read from.
-- Held against Langium's `DocumentSegment`: the offset and the end of a part in its document.
use Rattle.std.specs.Prelude.{ℕ, ◌≤◌, Option, Some, None, List, [], ◌∷◌, length, All, IfSome}
use Rattle.lw_base.specs.declared.token.Span.{Span}
use Rattle.lw_base.specs.declared.token.Token.{Token}
use Rattle.lw_tree.specs.declared.node.Value.{Value}
use Rattle.lw_tree.specs.declared.node.Value.TheVariants.{Text, Number, Huge, Raw, Truth, Child, Refers}
use Rattle.lw_tree.specs.Parts.{Parts, values_at}

-- a part of the text, which may be empty
abbrev pub IsInText : List ℕ → Span → Type 0
IsInText text s = (s.start ≤ s.end) × (s.end ≤ length text)

-- tokens of the text, one behind the other: each begins where the one before it ends or behind that, and the first at this offset or behind it
pub data StandInRow (text : List ℕ) : ℕ → List Token → Type 0 where
  none : {from : ℕ} → StandInRow text from []
  more : {from : ℕ} {t : Token} {ts : List Token} → from ≤ t.span.start → IsInText text t.span → StandInRow text t.span.end ts → StandInRow text from (t ∷ ts)

-- where a value stands; a node and a reference have their places in tables of their own
abbrev pub value_place : Value → Option Span
value_place (Text name s) = Some s
value_place (Number n s) = Some s
value_place (Huge s) = Some s
value_place (Raw name s) = Some s
value_place (Truth s) = Some s
value_place (Child n) = None
value_place (Refers r) = None

-- each span in the tree is a part of the text
pub record StandsInText (text : List ℕ) (tree : Parts) : Type 0 where
  pub nodes : All (λ node. IsInText text node.span) tree.nodes
  pub values : (n p : ℕ) → All (λ v. IfSome (value_place v) (IsInText text)) (values_at n p tree.values)
  pub refs : All (λ r. IsInText text r.span) tree.refs
