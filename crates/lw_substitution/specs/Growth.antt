-- What grows from marks that are read twice, with other tokens in the place of one reference: the same but for where things stand and for the name of that
-- reference.
use Rattle.std.specs.Prelude.{ℕ, ℤ, ◌≡◌, ◌≢◌, ◌+◌, ◌≤◌, Some, None, List, [], ◌∷◌, drop, length}
use Rattle.lw_base.specs.declared.token.Span.{Span}
use Rattle.lw_base.specs.declared.token.Token.{Token}
use Rattle.lw_grammar.specs.declared.rule.Op.{Op}
use Rattle.lw_grammar.specs.declared.rule.Value0.{Value0}
use Rattle.lw_reading.specs.Brackets.{Bracket, InNode, InValue, Root}
use Rattle.lw_reading.specs.Grown.{Plain, Text, Number, Huge, Raw, Truth, Grown, Grow, Held, Nothing, Puts, Takes, Points}
use Rattle.lw_reading.specs.Trees.{points, points_of}
use Rattle.lw_substitution.specs.Tokens.{AreSameTokens}

-- values that say the same, wherever they stand
pub data AreAlikePlain : Plain → Plain → Type 0 where
  text : {said : List ℕ} {s t : Span} → AreAlikePlain (Text said s) (Text said t)
  number : {n : ℤ} {s t : Span} → AreAlikePlain (Number n s) (Number n t)
  huge : {s t : Span} → AreAlikePlain (Huge s) (Huge t)
  raw : {said : List ℕ} {s t : Span} → AreAlikePlain (Raw said s) (Raw said t)
  truth : {s t : Span} → AreAlikePlain (Truth s) (Truth t)

-- `place` is the number of the one reference whose name may differ, where all references are counted in text order
module _ (place : ℕ) where
  mutual
    -- nodes that are the same but for where things stand and for the name of that reference; their references are counted from the number given
    pub data AreAlikeGrown : ℕ → Grown → Grown → Type 0 where
      grow : {from type : ℕ} {s t : Span} {held kept : Held} → AreAlikeHeld from held kept → AreAlikeGrown from (Grow type s held) (Grow type t kept)

    -- and what they hold
    pub data AreAlikeHeld : ℕ → Held → Held → Type 0 where
      nothing : {from : ℕ} → AreAlikeHeld from Nothing Nothing
      puts : {from p : ℕ} {v w : Plain} {held kept : Held} → AreAlikeHeld from held kept → AreAlikePlain v w →
          AreAlikeHeld from (Puts held p v) (Puts kept p w)
      takes : {from p : ℕ} {x y : Grown} {held kept : Held} → AreAlikeHeld from held kept → AreAlikeGrown (from + points_of held) x y →
          AreAlikeHeld from (Takes held p x) (Takes kept p y)
      points_to : {from p want : ℕ} {name other : List ℕ} {s t : Span} {held kept : Held} → AreAlikeHeld from held kept →
          (from + points_of held ≢ place → name ≡ other) → AreAlikeHeld from (Points held p want name s) (Points kept p want other t)

-- how many references stand in open brackets
abbrev pub points_open : List Bracket → ℕ
points_open [] = 0
points_open (InNode type from held ∷ bs) = points_open bs + points_of held
points_open (InValue p op c at None ∷ bs) = points_open bs
points_open (InValue p op c at (Some x) ∷ bs) = points_open bs + points x
points_open (Root x ∷ bs) = points_open bs + points x

-- what was read since so many tokens of the one and so many of the other says the same
pub record IsSameSince (text other : List ℕ) (ts us : List Token) (at from : ℕ) : Type 0 where
  pub inside : at ≤ length ts
  pub within : from ≤ length us
  pub since : AreSameTokens text other (drop at ts) (drop from us)

module _ (text other : List ℕ) (place : ℕ) (ts us : List Token) where
  mutual
    -- Brackets that are open once ts and us were read, the same but for where things stand and for the name of that reference.
    pub data AreAlikeOpen : List Bracket → List Bracket → Type 0 where
      none : AreAlikeOpen [] []
      root : {x y : Grown} {bs cs : List Bracket} → AreAlikeGrown place (points_open bs) x y → AreAlikeCovered bs cs → AreAlikeOpen (Root x ∷ bs) (Root y ∷ cs)
      node : {type at from : ℕ} {held kept : Held} {bs cs : List Bracket} → AreAlikeHeld place (points_open bs) held kept → AreAlikeCovered bs cs →
          AreAlikeOpen (InNode type at held ∷ bs) (InNode type from kept ∷ cs)
      finished : {p at from : ℕ} {op : Op} {c : Value0} {x y : Grown} {bs cs : List Bracket} → AreAlikeGrown place (points_open bs) x y →
          AreAlikeCovered bs cs → AreAlikeOpen (InValue p op c at (Some x) ∷ bs) (InValue p op c from (Some y) ∷ cs)
      begun : {p at from : ℕ} {op : Op} {c : Value0} {bs cs : List Bracket} → IsSameSince text other ts us at from → AreAlikeCovered bs cs →
          AreAlikeOpen (InValue p op c at None ∷ bs) (InValue p op c from None ∷ cs)

    -- Those under another: a value there may have been read by tokens that say something else, since it will be the node above it.
    pub data AreAlikeCovered : List Bracket → List Bracket → Type 0 where
      bare : {bs cs : List Bracket} → AreAlikeOpen bs cs → AreAlikeCovered bs cs
      covered : {p at from : ℕ} {op : Op} {c : Value0} {bs cs : List Bracket} → AreAlikeCovered bs cs →
          AreAlikeCovered (InValue p op c at None ∷ bs) (InValue p op c from None ∷ cs)

-- the innermost of these is a node
abbrev pub BeginWithNode : List Bracket → Type 0
BeginWithNode (InNode type from held ∷ bs) = Unit {0}
BeginWithNode _ = ⊥

-- each value is read directly in a node
abbrev pub StandInNodes : List Bracket → Type 0
StandInNodes [] = Unit {0}
StandInNodes (InNode type from held ∷ bs) = StandInNodes bs
StandInNodes (InValue p op c at inner ∷ bs) = BeginWithNode bs × StandInNodes bs
StandInNodes (Root x ∷ bs) = StandInNodes bs
