use Rattle.std.proofs.Common.{ℕ, map, take}
use Rattle.lw_look.specs.Choices.{inside}
use Rattle.lw_look.specs.Sites.{PartSite, ◌▸◌, Value}
use Rattle.lw_program.specs.Numbered.{value_puts}
use Rattle.lw_program.specs.Drafted.{AddsFor, ArePartsAt, GoesTo, IsValueRecipe}
use Rattle.lw_program.proofs.recipes.values.+values.Given as goal

abbrev pub invariant-put_ways-loop-way : goal.invariant-put_ways-loop-way
invariant-put_ways-loop-way l =
    (s : PartSite) → ((i : ℕ) → GoesTo l.lexicon.g.now l.target (s ▸ i)) → ArePartsAt l.lexicon.g.now s (map Value l.ways) →
    AddsFor (IsValueRecipe l.lexicon.g.now) (inside s 0 (map value_puts (take l.way-index l.ways))) l.fn.recipes.items l.recipes.items
