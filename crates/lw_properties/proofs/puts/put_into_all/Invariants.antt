use Rattle.std.proofs.Common.{map, take}
use Rattle.lw_faults.specs.Finding.{Finds, OfSome}
use Rattle.lw_properties.specs.Mixing.{PutsIn, putting_of}
use Rattle.lw_properties.proofs.puts.put_into_all.Given as goal

abbrev pub invariant-loop-number : goal.invariant-loop-number
invariant-loop-number l =
    Finds (OfSome (PutsIn l.known.g.now l.into.property.now l.into.list l.into.file l.into.span) (take l.number-index l.types)) (map putting_of l.initial.puts.items)
    (map putting_of l.puts.items)
