use Rattle.std.proofs.Common.{Some, subst}
use Rattle.lw_terminals.specs.Rounds.{IsNextWritten}
use Rattle.lw_terminals.proofs.RoundLemmas.{grows}
use Rattle.lw_terminals.proofs.patterns.rounds.visit.Goals as goal

pub returns-in-Some-clause-grew : goal.returns-in-Some-clause-grew
returns-in-Some-clause-grew c =
    let g = c.args.g.now in
    let items = c.args.written.now.items in
    let next = subst (IsNextWritten g c.args.place c.as_slice.result.now) c.in-Some.is c.in_ok-found.ensures in
    grows g c.args.numbers.now items c.args.place c.index.result.now c.in-Some.found c.is_found.result c.requires.known c.requires.place c.index.ensures c.is_found.ensures
    c.if-is_found.false (subst (λ xs. IsNextWritten g c.args.place xs (Some c.in-Some.found)) c.as_slice.ensures.value next)
