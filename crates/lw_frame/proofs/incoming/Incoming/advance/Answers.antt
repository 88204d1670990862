use Rattle.std.proofs.Common.{length, ap, arith, length-drop}
use Rattle.lw_frame.proofs.Growth.{to_end, grows_on, keeps_on, whole_waits_not}
use Rattle.lw_frame.proofs.incoming.Incoming.advance.Goals as goal

pub lines-preserved : goal.lines-preserved
lines-preserved c = record {
  grows = grows_on _ _ _ _ _ _ _ c.lines.invariant.grows (to_end c.lines.used c.args.piece.now) c.in_ok-used.ensures.ok;
  front = keeps_on _ _ _ c.lines.invariant.front c.in_ok-used.ensures.front;
}

pub returns-in_ok-used-2 : goal.returns-in_ok-used-2
returns-in_ok-used-2 c = record {
  ok = grows_on _ _ _ _ _ _ _ c.lines.invariant.grows (to_end c.lines.used c.args.piece.now) c.in_ok-used-2.ensures.ok;
  all = λ h. whole_waits_not _ (c.in_ok-used-2.ensures.all (omega (arith, ap length (to_end c.lines.used c.args.piece.now), length-drop c.lines.used c.args.piece.now)));
  front = keeps_on _ _ _ c.lines.invariant.front c.in_ok-used-2.ensures.front;
}
