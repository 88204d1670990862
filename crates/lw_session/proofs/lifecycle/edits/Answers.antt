use Rattle.std.proofs.Common.{refl, sym, ap, to_z-of_z}
use Rattle.lw_rpc.specs.declared.message.Message.TheVariants.{DidChange}
use Rattle.lw_session.proofs.lifecycle.edits.Goals as goal

pub returns : goal.returns
returns c =
    c.when_live.ensures (DidChange c.args.address c.args.version c.args.changes) refl
    (λ live. (sym (ap (λ version. DidChange c.args.address version c.args.changes) (to_z-of_z c.ranges.version)), live))
