use Rattle.std.proofs.Common.{arith}
use Rattle.lw_index.proofs.Starts.{types_fall, none_unless}
use Rattle.lw_index.proofs.exporters.last_type.Goals as goal

pub returns-in-Some : goal.returns-in-Some
returns-in-Some c = λ t u lt. none_unless _ (λ some. omega (arith, types_fall c.in-Some.place.now (t, u) (c.in-Some.ensures.greatest (t, u) some)))
