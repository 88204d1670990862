-- What two ways of a choice share: of their common heads the one whose window is printed first.
use Rattle.std.specs.Prelude.{⊤, ℕ, ◌≡◌, ◌≢◌, ◌<◌, ◌≤◌, ◌⊎◌, List, Option, Some, None, MatchOption, Contains, length, slice_get}
use Rattle.std.specs.Cmp.Lexicographic.{slice_cmp}
use Rattle.std.specs.Ordering.{nat_cmp}
use Rattle.std.specs.declared.cmp.Ordering.TheVariants.{Less, Greater}
use Rattle.lw_look.specs.Looks.{window}
use Rattle.lw_first.specs.declared.heads.head.Head.{Head}
use Rattle.lw_first.specs.Heads.{kinds_in}
use Rattle.lw_lookahead.specs.declared.points.point.Point.{Point}
use Rattle.lw_lookahead.specs.declared.fault.Conflict.{Conflict}
use Rattle.lw_lookahead.specs.declared.fault.LookFault.{LookFault}
use Rattle.lw_lookahead.specs.declared.fault.LookFault.TheVariants as fault
use Rattle.lw_lookahead.specs.Entries.{IsLeastPair, IsLeastPairOf, IsOfBoth, of_ways}
use Rattle.lw_lookahead.specs.Printed.{window_text}

-- the heads of a choice's ways, each beside its way
abbrev pub heads_at : Point → List (Head × ℕ)
heads_at point = of_ways 1 point.ways.items

-- what the code needs to know of the heads of a choice: they have at most k kinds, and the ways that have some are few
pub record AreFewHeads (k : ℕ) (point : Point) : Type 0 where
  pub short : (head : Head) (way : ℕ) → Contains (heads_at point) (head, way) → length (kinds_in head) ≤ k
  pub few : (i : ℕ) (heads : List Head) → slice_get point.ways.items i ≡ Some heads → 0 < length heads → i < 65535

-- no two ways have a head in common
abbrev pub SharesNoHead : Point → Type 0
SharesNoHead point = IsLeastPairOf (heads_at point) None

-- the text stands in front of the one that was the first so far, if one was
abbrev pub StandsInFront : List ℕ → Option (Head × List ℕ) → Type 0
StandsInFront text least = MatchOption least ⊤ (λ found. slice_cmp nat_cmp text found.1 ≡ Less)

-- a head with its text takes the place of the first so far, where it stands in front of that
abbrev pub KeepsFirst : Head → List ℕ → Option (Head × List ℕ) → Option (Head × List ℕ) → Type 0
KeepsFirst head text old new = (StandsInFront text old × (new ≡ Some (head, text))) ⊎ (¬ StandsInFront text old × (new ≡ old))

-- `texts` has the texts of kinds, by which windows of k kinds are printed
module _ (texts : List (List ℕ)) (k : ℕ) where
  abbrev pub head_text : Head → List ℕ
  head_text head = window_text texts (window k (kinds_in head))

  -- one that is so, with its text, of which no other one that is so is printed in front; or none is so
  pub record IsFirstPrinted (is_so : Head → Type 0) (head : Head) (text : List ℕ) : Type 0 where
    pub is : is_so head
    pub printed_so : text ≡ head_text head
    pub first : (other : Head) → is_so other → slice_cmp nat_cmp text (head_text other) ≢ Greater

  abbrev pub IsFirstPrintedOf : (Head → Type 0) → Option (Head × List ℕ) → Type 0
  IsFirstPrintedOf is_so None = (head : Head) → ¬ is_so head
  IsFirstPrintedOf is_so (Some found) = IsFirstPrinted is_so found.0 found.1

  -- the choice has this conflict
  pub record IsConflictAt (point : Point) (conflict : Conflict) : Type 0 where
    pub file : conflict.file ≡ point.file
    pub span : conflict.span ≡ point.span
    pub pair : IsLeastPair (heads_at point) (conflict.first, conflict.second)
    pub first : IsFirstPrinted (IsOfBoth (heads_at point) conflict.first conflict.second) conflict.shared conflict.text

  -- of these choices the first that has a conflict has this one
  pub record IsFirstConflictIn (points : List Point) (conflict : Conflict) : Type 0 where
    pub number : ℕ
    pub point : Point
    pub at : slice_get points number ≡ Some point
    pub clear : (n : ℕ) (other : Point) → n < number → slice_get points n ≡ Some other → SharesNoHead other
    pub conflicts : IsConflictAt point conflict

  -- why a choice, and why choices, have no entries
  abbrev pub CausesNoEntriesAt : Point → LookFault → Type 0
  CausesNoEntriesAt point (fault.Conflict conflict) = IsConflictAt point conflict
  CausesNoEntriesAt point fault.TooMany = ⊥
  CausesNoEntriesAt point fault.NoMemory = ⊤

  abbrev pub CausesNoEntries : List Point → LookFault → Type 0
  CausesNoEntries points (fault.Conflict conflict) = IsFirstConflictIn points conflict
  CausesNoEntries points fault.TooMany = ⊥
  CausesNoEntries points fault.NoMemory = ⊤
