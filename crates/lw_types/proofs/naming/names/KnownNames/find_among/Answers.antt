use Rattle.std.proofs.Common.{arith}
use Rattle.lw_faults.proofs.Joining.{Finds-more, Finds-all}
use Rattle.lw_types.specs.NameUses.{use_of}
use Rattle.lw_types.specs.Wrong.{TellsWrong}
use Rattle.lw_types.proofs.naming.names.KnownNames.find_among.Goals as goal

pub loop-mention-preserved : goal.loop-mention-preserved
loop-mention-preserved c =
    Finds-more (λ m. TellsWrong c.args.self.now.g.now (use_of m)) c.args.mentions.now c.loop-mention.mention-index c.mention-item.result (omega arith)
    c.mention-item.is c.loop-mention.invariant c.in_ok-find_at.ensures

pub returns : goal.returns
returns c =
    Finds-all (λ m. TellsWrong c.args.self.now.g.now (use_of m)) c.args.mentions.now c.loop-mention.mention-index (omega arith) c.loop-mention.invariant
