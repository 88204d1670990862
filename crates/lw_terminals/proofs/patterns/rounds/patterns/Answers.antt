use Rattle.std.proofs.Common.{subst}
use Rattle.lw_terminals.specs.Rounds.{PatternsGrewOrSettled}
use Rattle.lw_terminals.proofs.RoundLemmas.{all_right}
use Rattle.lw_terminals.proofs.patterns.rounds.patterns.Goals as goal

pub returns : goal.returns
returns c =
    let g = c.args.g.now in
    let new = c.round.new.written.items in
    all_right g c.args.numbers.now new c.in_ok-round.ensures.known (subst (PatternsGrewOrSettled g c.rounds.written.items new) c.if-branch.false c.in_ok-round.ensures.settles)
