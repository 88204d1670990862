-- The choices of a grammar, each with the heads of its ways.
use Rattle.std.specs.Prelude.{ℕ, ◌≡◌, ◌+◌, ◌<◌, ◌↔◌, List, Some, ⊤, length, slice_get, take}
use Rattle.std.specs.List.{sum_by}
use Rattle.lw_grammar.specs.declared.grammar.Grammar.{Grammar}
use Rattle.lw_grammar.specs.Kinds.{Kinds}
use Rattle.lw_look.specs.Choices.{choice_sites}
use Rattle.lw_look.specs.Sites.{PartSite}
use Rattle.lw_look.specs.Heads.{CanLook}
use Rattle.lw_first.specs.declared.heads.head.Head.{Head}
use Rattle.lw_first.specs.Sets.{AreDistinctHeads, IsInSet}
use Rattle.lw_lookahead.specs.declared.points.point.Point.{Point}
use Rattle.lw_lookahead.specs.declared.points.point.TheConstants.{MOST_STRINGS}
use Rattle.lw_lookahead.specs.declared.points.point.PointsFault.{PointsFault}
use Rattle.lw_lookahead.specs.declared.points.point.PointsFault.TheVariants.{TooMany, NoMemory}
use Rattle.lw_lookahead.specs.Written.{IsWrittenAt}

-- how many heads the ways of these choices have, one that two ways have twice
abbrev pub strings_in : List Point → ℕ
strings_in = sum_by (λ point. sum_by length point.ways.items)

-- `heads` and `followers` have for each rule what it may begin with and what may follow it
module _ (g : Grammar) (kinds : Kinds) (k : ℕ) (heads followers : List (List Head)) where
  -- the choice at the site: where it is written, and of each way, counted from one, the heads that may come next
  pub record IsPointAt (s : PartSite) (point : Point) : Type 0 where
    pub place : IsWrittenAt g s point.file point.span
    pub exact : (way : ℕ) (h : List ℕ) → CanLook g kinds k (IsInSet heads) (IsInSet followers) s way h ↔ ((i : ℕ) × (way ≡ i + 1) × IsInSet point.ways.items i h)
    -- of each way no head stands twice
    pub distinct : (i : ℕ) (heads : List Head) → slice_get point.ways.items i ≡ Some heads → AreDistinctHeads heads

  -- those at these sites, in their order
  pub record ArePoints (sites : List PartSite) (points : List Point) : Type 0 where
    pub all : length points ≡ length sites
    pub each : (n : ℕ) (s : PartSite) (point : Point) → slice_get sites n ≡ Some s → slice_get points n ≡ Some point → IsPointAt s point

  -- why the choices are not gathered
  abbrev pub CausesNoPoints : PointsFault → Type 0
  CausesNoPoints TooMany = (n : ℕ) × (points : List Point) × ArePoints (take n (choice_sites g)) points × (MOST_STRINGS < strings_in points)
  CausesNoPoints NoMemory = ⊤
