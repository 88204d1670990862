use Rattle.std.proofs.Common.{refl}
use Rattle.lw_rpc.specs.declared.message.Message.TheVariants.{DidClose}
use Rattle.lw_session.proofs.lifecycle.closes.Goals as goal

pub returns : goal.returns
returns c = c.when_live.ensures (DidClose c.args.address) refl (λ live. (refl, live))
