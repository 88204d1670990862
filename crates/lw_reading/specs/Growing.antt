-- Each sentence, and each beginning of one, grows a tree.
use Rattle.std.specs.Prelude.{ℕ, ◌≡◌, List, [], ◌∷◌, map}
use Rattle.lw_base.specs.declared.token.Token.{Token}
use Rattle.lw_grammar.specs.declared.grammar.Grammar.{Grammar}
use Rattle.lw_grammar.specs.Marks.{Mark, kinds_of}
use Rattle.lw_reading.specs.Brackets.{Bracket, Root}
use Rattle.lw_reading.specs.Follows.{Closes, FollowsMarks}
use Rattle.lw_reading.specs.Grown.{Grown}

-- the tokens have the kinds of the marks
abbrev pub ReadMarks : List Token → List Mark → Type 0
ReadMarks ts m = map (λ t. t.kind.0) ts ≡ kinds_of m

module _ (g : Grammar) (text : List ℕ) where
  -- the marks of a sentence, read with these tokens, leave a root
  abbrev pub GrowsRoot : List Mark → List Token → Type 0
  GrowsRoot m ts = (x : Grown) × FollowsMarks g text m ts (Root x ∷ [])

  -- marks, read with these tokens, leave brackets that can be closed
  abbrev pub GrowsOpen : List Mark → List Token → Type 0
  GrowsOpen m ts = (bs : List Bracket) × (x : Grown) × FollowsMarks g text m ts bs × Closes g text ts bs x
