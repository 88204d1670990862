use Rattle.std.proofs.Common.{◌≡◌, ◌++◌, map}
use Rattle.lw_properties.proofs.lineage.put_above.Given as goal

abbrev pub invariant-loop-name : goal.invariant-loop-name
invariant-loop-name l = map (λ n. n.now) l.waiting.items ≡ map (λ n. n.now) l.initial.waiting.items ++ map (λ n. n.now.0) l.yielded
