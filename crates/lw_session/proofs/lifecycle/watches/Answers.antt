use Rattle.std.proofs.Common.{refl}
use Rattle.lw_rpc.specs.declared.message.Message.TheVariants.{DidChangeWatchedFiles}
use Rattle.lw_session.proofs.lifecycle.watches.Goals as goal

pub returns : goal.returns
returns c = c.when_live.ensures (DidChangeWatchedFiles c.args.changes) refl (λ live. (refl, live))
