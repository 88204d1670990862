use Rattle.std.proofs.Common.{arith}
use Rattle.lw_matching.proofs.WalkLemmas.{tracking-both, tracking-back}
use Rattle.lw_matching.proofs.walk.Walker.foreseen_end.Goals as goal

pub walk-preserved-in-Ok : goal.walk-preserved-in-Ok
walk-preserved-in-Ok c = record {
  tracking = rw c.in-Ok.ensures.items
      (tracking-both c.args.nfa.now c.args.text.now c.walk.state c.walk.at _ _ c.walk.self-inside.ways.items c.walk.invariant.tracking c.in-Both.ensures);
  left = omega arith;
}

pub walk-preserved : goal.walk-preserved
walk-preserved c = record {
  tracking = tracking-back c.args.nfa.now c.args.text.now c.walk.state c.walk.at _ c.in-Some.way
      (rw c.in-Some.ensures.items at c.walk.invariant.tracking) c.in-Back.ensures;
  left = omega arith;
}
