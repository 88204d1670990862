use Rattle.std.proofs.Common.{length, ap, arith}
use Rattle.lw_faults.proofs.Joining.{Finds-all}
use Rattle.lw_types.specs.Rounds.{ToInterface}
use Rattle.lw_types.proofs.Gathering.{Finds-next}
use Rattle.lw_types.proofs.naming.names.KnownNames.put_extended.Goals as goal

pub loop-name-preserved : goal.loop-name-preserved
loop-name-preserved c =
    let lent = c.as_slice-name-items in
    Finds-next (λ above. ToInterface c.args.self.now.g.now c.args.i above.0) lent.result.now c.args.interface.now.above c.loop-name.name-index
    c.loop-name-item.result lent.ensures (omega arith) c.loop-name-item.is c.loop-name.invariant c.in_ok-put_interface.ensures

pub returns : goal.returns
returns c =
    let lent = c.as_slice-name-items in
    Finds-all (λ above. ToInterface c.args.self.now.g.now c.args.i above.0) c.args.interface.now.above c.loop-name.name-index
    (omega (arith, ap length lent.ensures)) c.loop-name.invariant
