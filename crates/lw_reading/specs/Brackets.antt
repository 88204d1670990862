-- What is open while marks are followed, and what a finished bracket leaves.
-- Held against the Langium documentation, "Grammar language": parser rules, unassigned rule calls, assignments.
use Rattle.std.specs.Prelude.{ℕ, ◌≡◌, Option, Some, None, List, [], ◌∷◌, ◌++◌, drop, slice_range}
use Rattle.lw_base.specs.declared.token.Span.{Span}
use Rattle.lw_base.specs.declared.token.Token.{Token}
use Rattle.lw_grammar.specs.declared.rule.Op.{Op}
use Rattle.lw_grammar.specs.declared.rule.Value0.{Value0}
use Rattle.lw_reading.specs.Grown.{Grown, Grow, Held, Nothing}

-- from the first of these tokens to the last; where there is none, from 0 to 0
abbrev pub end_of : Token → List Token → ℕ
end_of t [] = t.span.end
end_of t (u ∷ us) = end_of u us

abbrev pub span_of_tokens : List Token → Span
span_of_tokens [] = record { start = 0; end = 0 }
span_of_tokens (t ∷ ts) = record { start = t.span.start; end = end_of t ts }

-- the texts of these tokens, with nothing between
abbrev pub joined_texts : List ℕ → List Token → List ℕ
joined_texts text [] = []
joined_texts text (t ∷ ts) = slice_range text t.span.start t.span.end ++ joined_texts text ts

-- What is open: a node, with its type, how many tokens were read before it, and what it holds; or a value, with its property, how it is put
-- in, what is read, how many tokens were read before it, and the node that was finished inside it. At the end the root is left.
pub data Bracket : Type 0 where
  InNode : ℕ → ℕ → Held → Bracket
  InValue : ℕ → Op → Value0 → ℕ → Option Grown → Bracket
  Root : Grown → Bracket

-- the node that is open with this type behind so many tokens, as it is finished
abbrev pub grown : List Token → ℕ → ℕ → Held → Grown
grown ts type from held = Grow type (span_of_tokens (drop from ts)) held

-- `Shuts ts bs after`: the node that is open innermost is finished. Directly inside a value it is that value; inside a node that holds
-- nothing yet it takes its place, and begins where that one begins; else it is the root.
pub data Shuts (ts : List Token) : List Bracket → List Bracket → Type 0 where
  in_value : {type from p at : ℕ} {held : Held} {op : Op} {c : Value0} {bs : List Bracket} →
      Shuts ts (InNode type from held ∷ InValue p op c at None ∷ bs) (InValue p op c at (Some (grown ts type from held)) ∷ bs)
  in_node : {type from outer at : ℕ} {held : Held} {bs : List Bracket} →
      Shuts ts (InNode type from held ∷ InNode outer at Nothing ∷ bs) (InNode type at held ∷ bs)
  at_root : {type from : ℕ} {held : Held} → Shuts ts (InNode type from held ∷ []) (Root (grown ts type from held) ∷ [])
