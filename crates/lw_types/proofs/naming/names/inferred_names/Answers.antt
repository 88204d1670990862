use Rattle.std.proofs.Common.{arith}
use Rattle.lw_faults.proofs.Joining.{Finds-more}
use Rattle.lw_types.specs.NameUses.{use_of}
use Rattle.lw_types.specs.Wrong.{InfersName}
use Rattle.lw_types.proofs.naming.names.inferred_names.Goals as goal

pub loop-mention-preserved : goal.loop-mention-preserved
loop-mention-preserved c =
    Finds-more (λ m. InfersName (use_of m)) c.args.mentions.now c.loop-mention.mention-index c.mention-item.result (omega arith) c.mention-item.is
    c.loop-mention.invariant c.in_ok-put_inferred.ensures
