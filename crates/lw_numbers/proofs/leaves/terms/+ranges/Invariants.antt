use Rattle.std.proofs.Common.{◌≡◌, ◌++◌, map, take}
use Rattle.std.specs.List.{flat_map}
use Rattle.lw_grammar.specs.Written.{term_ranges}
use Rattle.lw_numbers.specs.Parts.{term_range_of}
use Rattle.lw_numbers.proofs.leaves.terms.+ranges.Given as goal

abbrev pub invariant-put_all_ranges-loop-element : goal.invariant-put_all_ranges-loop-element
invariant-put_all_ranges-loop-element l = map term_range_of l.found.items ≡ map term_range_of l.fn.found.items ++ flat_map term_ranges (take l.element-index l.elements)
