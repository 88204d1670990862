-- Choices with the windows that come next at their ways.
use Rattle.std.specs.Prelude.{⊤, ℕ, ◌≡◌, ◌↔◌, List, Option, Some, Contains, length, slice_get}
use Rattle.lw_grammar.specs.declared.grammar.Grammar.{Grammar}
use Rattle.lw_grammar.specs.Kinds.{Kinds}
use Rattle.lw_look.specs.Choices.{choice_sites}
use Rattle.lw_look.specs.Looks.{Look, window}
use Rattle.lw_look.specs.Sites.{PartSite}
use Rattle.lw_look.specs.Strings.{HasMoreStrings}
use Rattle.lw_first.specs.declared.heads.head.Head.{Head}
use Rattle.lw_first.specs.Heads.{kinds_in}
use Rattle.lw_lookahead.specs.declared.points.point.Point.{Point}
use Rattle.lw_lookahead.specs.declared.points.point.TheConstants.{MOST_STRINGS}
use Rattle.lw_lookahead.specs.Written.{IsWrittenAt}
use Rattle.lw_lookahead.specs.declared.fault.LookFault.{LookFault}
use Rattle.lw_lookahead.specs.declared.fault.LookFault.TheVariants as fault
use Rattle.lw_lookahead.specs.Entries.{AreEntries, AreFirstWays}
use Rattle.lw_lookahead.specs.Shared.{SharesNoHead, heads_at}

module _ (g : Grammar) (kinds : Kinds) (k : ℕ) where
  -- at the site stands this choice, and the windows of its ways are exactly those of its heads
  pub record IsSeenAt (s : PartSite) (point : Point) : Type 0 where
    pub place : IsWrittenAt g s point.file point.span
    pub exact : (way : ℕ) (seen : List (Option ℕ)) → Look g kinds k s way seen ↔
        ((head : Head) × Contains (heads_at point) (head, way) × (seen ≡ window k (kinds_in head)))

  -- these are the choices of the grammar
  pub record AreSeen (points : List Point) : Type 0 where
    pub all : length points ≡ length (choice_sites g)
    pub each : (n : ℕ) (s : PartSite) (point : Point) → slice_get (choice_sites g) n ≡ Some s → slice_get points n ≡ Some point → IsSeenAt s point

  -- why the choices are not found
  abbrev pub CausesNoChoices : LookFault → Type 0
  CausesNoChoices (fault.Conflict conflict) = ⊥
  CausesNoChoices fault.TooMany = HasMoreStrings g kinds k MOST_STRINGS
  CausesNoChoices fault.NoMemory = ⊤

-- the entries of a choice that has no conflict: for each head its way
pub record AreEntriesOfChoice (k : ℕ) (point : Point) (entries : List (Head × ℕ)) : Type 0 where
  pub clear : SharesNoHead point
  pub first : AreFirstWays (heads_at point) entries
  pub known : AreEntries k entries
