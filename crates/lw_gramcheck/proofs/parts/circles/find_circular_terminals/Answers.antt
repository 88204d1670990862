use Rattle.std.proofs.Common.{List, [], length, sym, subst}
use Rattle.lw_grammar.specs.declared.terminal.Terminal.{Terminal}
use Rattle.lw_faults.specs.Finding.{Finds, AtSome}
use Rattle.lw_gramcheck.specs.Edges.{Edge, IsTerminalEdge, StayBelow, TerminalIn}
use Rattle.lw_gramcheck.proofs.CircleLemmas.{circular_terminals, terminals_below}
use Rattle.lw_gramcheck.proofs.parts.circles.find_circular_terminals.Goals as goal

pub graph_of-requires : goal.graph_of-requires
graph_of-requires c =
    let P : List Edge → Type 0 = StayBelow (length c.as_slice-terminals.result.now) in
    let Q : List Terminal → Type 0 = λ terminals. StayBelow (length terminals) c.in_ok-edges.edges.items in
    subst P (sym c.as_slice.ensures.value) (subst Q (sym c.as_slice-terminals.ensures) (terminals_below c.args.checker.now.g.now c.in_ok-edges.ensures))

pub returns : goal.returns
returns c =
    let g = c.args.checker.now.g.now in
    let P : List Edge → Type 0 = λ edges. Finds (IsTerminalEdge g) [] edges in
    let Q : List Terminal → Type 0 = λ terminals. Finds (AtSome (TerminalIn c.in_ok-round.round) terminals) c.args.found.now c.find_terminals_in.new.found in
    circular_terminals g c.in_ok-graph.graph c.as_slice.result.now c.in_ok-graph.ensures c.in_ok-round.round c.in_ok-round.ensures
    (subst P (sym c.as_slice.ensures.value) c.in_ok-edges.ensures) (subst Q c.as_slice-terminals.ensures c.in_ok-find_terminals_in.ensures)
