-- What is recorded of a leaf, by the marks that come to it.
use Rattle.std.specs.Prelude.{ℕ, ◌≡◌, ◌↔◌, ◌≤◌, List, [], Option, Some, None, true, length, slice_get, Contains}
use Rattle.std.specs.List.Sorted.{IsStrictlyIncreasing}
use Rattle.lw_grammar.specs.declared.grammar.Grammar.{Grammar}
use Rattle.lw_grammar.specs.declared.rule.Rule.{Rule}
use Rattle.lw_grammar.specs.Leaves.{leaves}
use Rattle.lw_flow.specs.declared.before.Before.{Before}
use Rattle.lw_flow.specs.declared.effect.Effect.{Effect}
use Rattle.lw_flow.specs.declared.effect.Effect.TheVariants.{Nothing, Reads, Fills, Calls, Acts}
use Rattle.lw_flow.specs.declared.effect.Mark.{Mark}
use Rattle.lw_flow.specs.declared.effect.Mark.TheVariants.{Done, Own, Of}
use Rattle.lw_flow.specs.declared.walking.Visit.{Visit}
use Rattle.lw_flow.specs.Effects.{weight}
use Rattle.lw_flow.specs.Visits.{TellsOf, AtLeaf}

-- the number of the type that is current behind an effect, where it tells one
abbrev pub told_number : Effect → Option ℕ
told_number Nothing = None
told_number Reads = None
told_number Fills = None
told_number (Calls t) = t
told_number (Acts t) = t

-- the number of the current type
abbrev pub current_of : Mark → Option ℕ
current_of (Done x) = told_number x
current_of (Own n) = Some n
current_of (Of n) = None

-- the number of the type of the rule
abbrev pub type_of : Mark → Option ℕ
type_of (Done x) = None
type_of (Own n) = None
type_of (Of n) = Some n

-- the mark has an effect of this weight at least
abbrev pub Weighs : Mark → ℕ → Type 0
Weighs (Done x) n = n ≤ weight x
Weighs (Own _) n = ⊥
Weighs (Of _) n = ⊥

abbrev pub SomeWeighs : List Mark → ℕ → Type 0
SomeWeighs marks n = (x : Effect) × Contains marks (Done x) × (n ≤ weight x)

-- these are the numbers that a mark has
abbrev pub AreNumbersIn : (Mark → Option ℕ) → List Mark → List ℕ → Type 0
AreNumbersIn number_in marks numbers = (n : ℕ) → Contains numbers n ↔ ((m : Mark) × Contains marks m × (number_in m ≡ Some n))

-- what is recorded where these marks come to
pub record IsEntryOf (marks : List Mark) (entry : Before) : Type 0 where
  pub first : (entry.first ≡ true) ↔ Contains marks (Done Nothing)
  pub behind : (entry.behind ≡ true) ↔ SomeWeighs marks 1
  pub filled : (entry.filled ≡ true) ↔ SomeWeighs marks 2
  pub current : AreNumbersIn current_of marks entry.current.items
  pub of : AreNumbersIn type_of marks entry.of.items
  pub current_ascends : IsStrictlyIncreasing entry.current.items
  pub of_ascends : IsStrictlyIncreasing entry.of.items

-- a step has its marks' entry, and a call of a fragment one of no marks
abbrev pub single_at : Option ℕ → List Mark → List Mark
single_at None marks = marks
single_at (Some f) marks = []

abbrev pub single_marks : Visit → List Mark
single_marks v = single_at v.enters v.marks.keys

pub record AreEntriesOf (visits : List Visit) (entries : List Before) : Type 0 where
  pub all : length entries ≡ length visits
  pub each : (i : ℕ) (v : Visit) (entry : Before) → slice_get visits i ≡ Some v → slice_get entries i ≡ Some entry → IsEntryOf (single_marks v) entry

-- the row of a rule, to which these marks come
pub record IsRowOf (g : Grammar) (table : ℕ → Effect → Type 0) (rule : Rule) (start : List Mark) (entries : List Before) : Type 0 where
  pub visits : List Visit
  pub tells : TellsOf g (AtLeaf g table start rule.body) (leaves rule.body) visits
  pub are : AreEntriesOf visits entries
