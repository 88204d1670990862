use Rattle.std.proofs.Common.{◌∙◌, arith}
use Rattle.lw_flow.proofs.fragments.widen_back.Goals as goal

pub loop-number-preserved : goal.loop-number-preserved
loop-number-preserved c = record {
  same_length = c.in_ok-widen.ensures.length ∙ c.loop-number.invariant.same_length;
  sound = λ sound. c.in_ok-widen.ensures.widens.sound (c.loop-number.invariant.sound sound);
  room = omega (arith, c.in_ok-widen.ensures.room.most, c.loop-number.invariant.room);
}
