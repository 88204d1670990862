use Rattle.std.proofs.Common.{arith}
use Rattle.lw_types.specs.Rounds.{TellsOther}
use Rattle.lw_types.proofs.Gathering.{Finds-next}
use Rattle.lw_types.proofs.naming.names.KnownNames.find_extending_others.Goals as goal

pub loop-interface-preserved : goal.loop-interface-preserved
loop-interface-preserved c =
    let g = c.args.self.now.g.now in
    let lent = c.as_slice-interface-items in
    Finds-next (TellsOther g) lent.result.now g.interfaces c.loop-interface.interface-index c.interface-item.result lent.ensures (omega arith) c.interface-item.is
    c.loop-interface.invariant c.in_ok-find_extending_other.ensures
