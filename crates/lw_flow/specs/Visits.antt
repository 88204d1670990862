-- The leaves of an element as they are come to, each with the marks of the ways to it.
use Rattle.std.specs.Prelude.{ℕ, ◌≡◌, ◌↔◌, ◌<◌, List, [], ◌∷◌, ◌++◌, Option, Some, None, length, slice_get, Contains}
use Rattle.lw_grammar.specs.declared.grammar.Grammar.{Grammar}
use Rattle.lw_grammar.specs.declared.rule.Element.{Element}
use Rattle.lw_grammar.specs.declared.rule.Rule.{Rule}
use Rattle.lw_grammar.specs.Leaves.{Leaf, IsFragmentCall}
use Rattle.lw_faults.specs.Steps.{PutsInFragment}
use Rattle.lw_flow.specs.declared.effect.Effect.{Effect}
use Rattle.lw_flow.specs.declared.effect.Mark.{Mark}
use Rattle.lw_flow.specs.declared.walking.Visit.{Visit}
use Rattle.lw_flow.specs.Effects.{joined_effect}
use Rattle.lw_flow.specs.Marks.{Moves}
use Rattle.lw_flow.specs.Passing.{DoesFirst, DoesTurns, MayPrecede}

-- a visit with these marks was put behind the others
pub record Pushed (enters : Option ℕ) (marks : List Mark) (old new : List Visit) : Type 0 where
  pub visit : Visit
  pub is : new ≡ old ++ visit ∷ []
  pub place : visit.enters ≡ enters
  pub exact : (m : Mark) → Contains visit.marks.keys m ↔ Contains marks m

module _ (g : Grammar) where
  -- the number of the fragment that is called there
  abbrev pub IsPlaceOf : Leaf → Option ℕ → Type 0
  IsPlaceOf l None = ¬ PutsInFragment g l
  IsPlaceOf l (Some f) = (fragment : Rule) × IsFragmentCall g l f fragment

  -- the visits of these leaves have the marks that are known there
  pub record TellsOf (known : Leaf → Mark → Type 0) (ls : List Leaf) (visits : List Visit) : Type 0 where
    pub all : length visits ≡ length ls
    pub place : (i : ℕ) (l : Leaf) (v : Visit) → slice_get ls i ≡ Some l → slice_get visits i ≡ Some v → IsPlaceOf l v.enters
    pub sound : (i : ℕ) (v : Visit) (m : Mark) → slice_get visits i ≡ Some v → Contains v.marks.keys m → (l : Leaf) × (slice_get ls i ≡ Some l) × known l m
    pub complete : (l : Leaf) (m : Mark) → known l m →
        (i : ℕ) × (v : Visit) × (slice_get ls i ≡ Some l) × (slice_get visits i ≡ Some v) × Contains v.marks.keys m

  -- visits of these leaves were put behind the others
  pub record PutsVisits (known : Leaf → Mark → Type 0) (ls : List Leaf) (old new : List Visit) : Type 0 where
    pub more : List Visit
    pub is : new ≡ old ++ more
    pub tells : TellsOf known ls more

  module _ (table : ℕ → Effect → Type 0) (start : List Mark) where
    -- at this leaf of the element, which these marks come to
    pub record AtLeaf (e : Element) (l : Leaf) (m : Mark) : Type 0 where
      pub before : Effect
      pub from : Mark
      pub starts : Contains start from
      pub comes : MayPrecede g table e before l
      pub moves : Moves from before m

    -- the same behind any number of turns of a loop over the element
    pub record AgainAt (e : Element) (l : Leaf) (m : Mark) : Type 0 where
      pub turns : Effect
      pub before : Effect
      pub from : Mark
      pub starts : Contains start from
      pub turn : DoesTurns g table e turns
      pub comes : MayPrecede g table e before l
      pub moves : Moves from (joined_effect turns before) m

    -- behind the first of a row
    pub record MovedFirst (es : List Element) (k : ℕ) (m : Mark) : Type 0 where
      pub before : Effect
      pub from : Mark
      pub starts : Contains start from
      pub first : DoesFirst g table es k before
      pub moves : Moves from before m

    -- at this leaf of one of the first of a row
    pub record InRow (es : List Element) (k : ℕ) (l : Leaf) (m : Mark) : Type 0 where
      pub number : ℕ
      pub part : Element
      pub inside : number < k
      pub at : slice_get es number ≡ Some part
      pub before : Effect
      pub then : Effect
      pub from : Mark
      pub starts : Contains start from
      pub first : DoesFirst g table es number before
      pub comes : MayPrecede g table part then l
      pub moves : Moves from (joined_effect before then) m

    -- at this leaf of some one of them
    pub record InSome (es : List Element) (l : Leaf) (m : Mark) : Type 0 where
      pub part : Element
      pub among : Contains es part
      pub there : AtLeaf part l m
