use Rattle.std.proofs.Common.{arith}
use Rattle.lw_kinds.proofs.RoundLemmas.{settles}
use Rattle.lw_kinds.proofs.derivations.names.Names.round.Goals as goal

pub returns-clause-settles : goal.returns-clause-settles
returns-clause-settles c =
    settles c.args.self.now.g.now c.args.tokens c.args.flags.now c.visit_some.new.flags c.visit_all.new.flags c.visit_all.result (omega arith) c.visit_some.ensures.fewer
    c.visit_all.ensures.grew
