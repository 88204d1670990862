-- How flags of rules grow over rounds, in words of the code.
use Rattle.std.specs.Prelude.{ℕ, ◌≡◌, ◌<◌, ◌↔◌, List, Bool, true, false, Some, count_by, not, slice_get}
use Rattle.lw_grammar.specs.declared.grammar.Grammar.{Grammar}
use Rattle.lw_grammar.specs.declared.rule.Rule.{Rule}
use Rattle.lw_graph.specs.Walks.{HasNode}
use Rattle.lw_kinds.specs.Passing.{MayPass, IsJust, IsSettledAt}

-- how many flags are not set
abbrev pub unset : List Bool → ℕ
unset flags = count_by not flags

module _ (g : Grammar) (tokens : Bool) where
  -- each flag that is set stays just
  abbrev pub StaysJust : List Bool → List Bool → Type 0
  StaysJust old new = IsJust g tokens old → IsJust g tokens new

  -- one more flag was set, or all stayed and the rules that pass below this number had theirs
  abbrev pub GrewBelow : ℕ → List Bool → List Bool → Bool → Type 0
  GrewBelow r old new true = unset new < unset old
  GrewBelow r old new false = (new ≡ old) × ((k : ℕ) → k < r → IsSettledAt g tokens old k)

  -- the same at one rule
  abbrev pub GrewAt : ℕ → List Bool → List Bool → Bool → Type 0
  GrewAt r old new true = unset new < unset old
  GrewAt r old new false = (new ≡ old) × IsSettledAt g tokens old r

  -- some flag was set, or each rule that passes has its flag
  abbrev pub GrewOrSettled : List Bool → List Bool → Bool → Type 0
  GrewOrSettled old new true = unset new < unset old
  GrewOrSettled old new false = (r : ℕ) → IsSettledAt g tokens new r

  -- a rule has its flag exactly where its body may be read so
  abbrev pub AreExact : List Bool → Type 0
  AreExact flags = (r : ℕ) (rule : Rule) → slice_get g.rules r ≡ Some rule → HasNode flags r ↔ MayPass g tokens rule.body
