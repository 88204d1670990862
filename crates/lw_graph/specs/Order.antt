-- A search along edges, in words of the code.
use Rattle.std.specs.Prelude.{ℕ, ◌≡◌, ◌+◌, ◌*◌, ◌^◌, ◌<◌, All, count_by, length, not}
use Rattle.lw_graph.specs.declared.order.Search.{Search}
use Rattle.lw_graph.specs.declared.order.Step.{Step}
use Rattle.lw_graph.specs.declared.order.Step.TheVariants.{Enter, Leave}

-- the step is about one of so many nodes
abbrev pub IsStepWithin : ℕ → Step → Type 0
IsStepWithin nodes (Enter n) = n < nodes
IsStepWithin nodes (Leave n) = n < nodes

pub record SearchesWithin (nodes : ℕ) (search : Search) : Type 0 where
  pub entered : length search.entered.items ≡ nodes
  pub waiting : All (IsStepWithin nodes) search.waiting.items
  pub left : All (λ n. n < nodes) search.left.items

-- how far the search is from its end: to enter a node makes more steps wait, and fewer than this many
abbrev pub steps_left : Search → ℕ
steps_left search = count_by not search.entered.items * 2 ^ 64 + length search.waiting.items
