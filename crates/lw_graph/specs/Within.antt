-- That edges lead to nodes that are there.
use Rattle.std.specs.Prelude.{ℕ, ◌<◌, List, All}

-- each of these successors is a node below this number
abbrev pub LeadsWithin : ℕ → List (List ℕ) → Type 0
LeadsWithin nodes successors = All (All (λ next. next < nodes)) successors
