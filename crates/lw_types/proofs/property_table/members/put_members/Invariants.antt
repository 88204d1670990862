use Rattle.std.proofs.Common.{◌≡◌, ◌++◌, map}
use Rattle.lw_types.proofs.property_table.members.put_members.Given as goal

abbrev pub invariant-loop-member : goal.invariant-loop-member
invariant-loop-member l = map (λ m. m.now) l.waiting.items ≡ map (λ m. m.now) l.initial.waiting.items ++ map (λ m. m.now) l.yielded
