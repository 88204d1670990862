use Rattle.std.proofs.Common.{map, take}
use Rattle.lw_faults.specs.Finding.{Finds, OfSome}
use Rattle.lw_properties.specs.Places.{spot_of}
use Rattle.lw_properties.specs.Mixing.{PutAt, putting_of}
use Rattle.lw_properties.proofs.puts.put_puts.Given as goal

abbrev pub invariant-loop-place : goal.invariant-loop-place
invariant-loop-place l =
    Finds (OfSome (PutAt l.known.g.now) (map spot_of (take l.place-index l.places))) (map putting_of l.initial.puts.items) (map putting_of l.puts.items)
