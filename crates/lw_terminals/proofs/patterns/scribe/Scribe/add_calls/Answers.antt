use Rattle.std.proofs.Common.{arith}
use Rattle.lw_terminals.proofs.MeaningLemmas.{terminal_within}
use Rattle.lw_terminals.proofs.patterns.scribe.Scribe.add_calls.Goals as goal

pub add-requires-clause-to_in : goal.add-requires-clause-to_in
add-requires-clause-to_in c =
    omega (arith, terminal_within c.args.self.now.g.now c.loop-name-item.result.0.now c.in-Some.called c.in-Some.ensures, c.loop-name.invariant, c.requires.nodes)
