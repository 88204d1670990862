-- What a builder has built, and what its next mark does.
use Rattle.std.specs.Prelude.{ℕ, ◌≡◌, ◌≤◌, List, Some, All, take, length, slice_get, not, filter}
use Rattle.lw_base.specs.declared.token.Token.{Token}
use Rattle.lw_grammar.specs.declared.grammar.Grammar.{Grammar}
use Rattle.lw_gramlex.specs.Places.{IsPlace}
use Rattle.lw_grammar.specs.Marks.{Mark}
use Rattle.lw_grammar.specs.Marks as mark
use Rattle.lw_reading.specs.Brackets.{Bracket}
use Rattle.lw_reading.specs.Follows.{ChangesOpen, FollowsMarks}
use Rattle.lw_program.specs.Making.{AreRecipesOf}
use Rattle.lw_builder.specs.declared.builder.Builder.{Builder}
use Rattle.lw_builder.specs.Standing.{StandsOpen}

-- the tokens that are not hidden
abbrev pub visible_of : List Token → List Token
visible_of tokens = filter (λ t. not t.hidden) tokens

-- each token is a part of the text
abbrev pub ArePartsOf : List ℕ → List Token → Type 0
ArePartsOf text tokens = All (λ t. IsPlace text t.span) tokens

module _ (g : Grammar) where
  -- the builder has followed these marks, with as many of the visible tokens as it has read, and these brackets are open
  pub record HasFollowed (m : List Mark) (bs : List Bracket) (builder : Builder) : Type 0 where
    pub recipes : AreRecipesOf g builder.recipes.now
    pub parts : ArePartsOf builder.text.now builder.visible.now
    pub within : builder.read ≤ length builder.visible.now
    pub follows : FollowsMarks g builder.text.now m (take builder.read builder.visible.now) bs
    pub stands : StandsOpen g builder bs

  -- the next mark, and what is open behind it
  pub data GoesOnBy (builder : Builder) : Mark → List Bracket → List Bracket → Type 0 where
    token : {t : Token} {bs : List Bracket} → slice_get builder.visible.now builder.read ≡ Some t → GoesOnBy builder (mark.Token t.kind.0) bs bs
    other : {m : Mark} {bs after : List Bracket} → ChangesOpen g builder.text.now (take builder.read builder.visible.now) m bs after →
        GoesOnBy builder m bs after

-- the text, its visible tokens and the recipes are those of before
pub record IsOverSame (old new : Builder) : Type 0 where
  pub text : new.text.now ≡ old.text.now
  pub visible : new.visible.now ≡ old.visible.now
  pub recipes : new.recipes.now ≡ old.recipes.now
