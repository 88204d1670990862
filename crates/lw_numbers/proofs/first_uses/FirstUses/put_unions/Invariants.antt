use Rattle.std.proofs.Common.{[], map, take}
use Rattle.lw_numbers.specs.FirstUses.{Puts}
use Rattle.lw_numbers.proofs.first_uses.FirstUses.put_unions.Given as goal

abbrev pub invariant-loop-union : goal.invariant-loop-union
invariant-loop-union l = Puts (map (λ u. u.name) (take l.union-index l.unions)) [] l.fn.self l.self
