use Rattle.std.proofs.Common.{arith}
use Rattle.lw_matching.proofs.FrontLemmas.{terminals_more}
use Rattle.lw_matching.proofs.sure.front.terminals_stay.Goals as goal

pub loop-j-preserved : goal.loop-j-preserved
loop-j-preserved c = record {
  stay = terminals_more c.args.nfas.now c.args.text.now c.loop-j.j c.index-nfas-j.result c.in-Some.field-0 c.loop-j.invariant.stay
      (omega arith) c.index-nfas-j.is c.in-Some.ensures.foreseen;
  left = omega (arith, c.in-Some.ensures.left, c.loop-j.invariant.left);
}
