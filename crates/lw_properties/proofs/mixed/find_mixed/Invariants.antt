use Rattle.std.proofs.Common.{map, take}
use Rattle.lw_faults.specs.Finding.{Finds, OfSome}
use Rattle.lw_properties.specs.Mixing.{putting_of, MixedAt}
use Rattle.lw_properties.proofs.mixed.find_mixed.Given as goal

abbrev pub invariant-loop-put : goal.invariant-loop-put
invariant-loop-put l = Finds (OfSome (MixedAt (map putting_of l.puts)) (map putting_of (take l.put-index l.puts))) l.initial.found l.found
