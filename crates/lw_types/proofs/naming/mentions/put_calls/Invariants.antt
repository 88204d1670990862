use Rattle.std.proofs.Common.{◌≡◌, ◌++◌, map, take}
use Rattle.std.specs.List.{flat_map}
use Rattle.lw_numbers.specs.Parts.{term_call_of}
use Rattle.lw_types.specs.NameUses.{use_of, called_uses}
use Rattle.lw_types.proofs.naming.mentions.put_calls.Given as goal

abbrev pub invariant-loop-name : goal.invariant-loop-name
invariant-loop-name l =
    map use_of l.found.items ≡ map use_of l.fn.found.items ++ flat_map (λ call. called_uses l.file (term_call_of call)) (take l.name-index l.calls)
