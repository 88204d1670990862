use Rattle.std.proofs.Common.{refl, sym, ap, to_z-of_z}
use Rattle.lw_rpc.specs.declared.message.Message.TheVariants.{DidOpen}
use Rattle.lw_session.proofs.lifecycle.opens.Goals as goal

pub returns : goal.returns
returns c =
    c.when_live.ensures (DidOpen c.args.address c.args.version c.args.text) refl
    (λ live. (sym (ap (λ version. DidOpen c.args.address version c.args.text) (to_z-of_z c.ranges.version)), live))
