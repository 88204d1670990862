use Rattle.std.proofs.Common.{arith}
use Rattle.lw_matching.proofs.NfaLemmas.{made-are}
use Rattle.lw_matching.proofs.nfa.nfas_of.Goals as goal

pub returns-clause-made : goal.returns-clause-made
returns-clause-made c = made-are c.args.patterns.now c.loop-pattern.nfas.items (omega arith) c.loop-pattern.invariant.made
