use Rattle.std.proofs.Common.{◌≡◌, ◌++◌, map, take}
use Rattle.std.specs.List.{flat_map}
use Rattle.lw_grammar.specs.Written.{term_calls}
use Rattle.lw_numbers.specs.Parts.{term_call_of}
use Rattle.lw_numbers.proofs.leaves.terms.+calls.Given as goal

abbrev pub invariant-put_all_calls-loop-element : goal.invariant-put_all_calls-loop-element
invariant-put_all_calls-loop-element l = map term_call_of l.found.items ≡ map term_call_of l.fn.found.items ++ flat_map term_calls (take l.element-index l.elements)
