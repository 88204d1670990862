use Rattle.std.proofs.Common.{◌≡◌, ◌++◌, map, take}
use Rattle.std.specs.List.{flat_map}
use Rattle.lw_types.specs.NameUses.{use_of, terminal_uses}
use Rattle.lw_types.proofs.naming.mentions.put_terminals.Given as goal

abbrev pub invariant-loop-terminal : goal.invariant-loop-terminal
invariant-loop-terminal l =
    map use_of l.found.items ≡ map use_of l.fn.found.items ++ flat_map terminal_uses (take l.terminal-index l.terminals)
