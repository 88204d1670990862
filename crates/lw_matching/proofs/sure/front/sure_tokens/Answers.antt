use Rattle.std.proofs.Common.{refl, arith}
use Rattle.lw_matching.proofs.FrontLemmas.{front_none, front_more}
use Rattle.lw_matching.proofs.sure.front.sure_tokens.Goals as goal

pub loop-i-init : goal.loop-i-init
loop-i-init c = record { stays = front_none c.args.keywords.now c.args.nfas.now c.args.text.now c.args.tokens.now; left = omega arith }

pub loop-i-preserved : goal.loop-i-preserved
loop-i-preserved c = record {
  stays = front_more c.args.keywords.now c.args.nfas.now c.args.text.now c.args.tokens.now c.loop-i.i _ _ c.loop-i.invariant.stays (omega arith) refl
      (rw c.range_from-rest.ensures.value at (c.if-not-token_stays.ensures.keywords refl))
      (rw c.range_from-rest.ensures.value at (c.if-not-token_stays.ensures.terminals refl));
  left = omega (arith, c.if-not-token_stays.ensures.left, c.loop-i.invariant.left);
}
