-- What follows from an answer that is there or not.
use Rattle.std.proofs.Common.{Option, Some, None, MatchOption}

pub answer_weaker : {X : Type 0} {P P' : Type 0} {Q Q' : X → Type 0} (o : Option X) → MatchOption o P Q → (P → P') → ((x : X) → Q x → Q' x) → MatchOption o P' Q'
answer_weaker None h f g = f h
answer_weaker (Some x) h f g = g x h
