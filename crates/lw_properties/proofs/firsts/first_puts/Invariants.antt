use Rattle.std.proofs.Common.{map, take}
use Rattle.lw_properties.specs.Mixing.{putting_of, AreFirstPuts}
use Rattle.lw_properties.proofs.firsts.first_puts.Given as goal

abbrev pub invariant-loop-put : goal.invariant-loop-put
invariant-loop-put l = AreFirstPuts (map putting_of (take l.put-index l.puts)) l.firsts.entries
