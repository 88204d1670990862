use Rattle.std.proofs.Common.{List, [], length, sym, subst}
use Rattle.lw_grammar.specs.declared.rule.Rule.{Rule}
use Rattle.lw_faults.specs.Finding.{Finds, AtSome}
use Rattle.lw_gramcheck.specs.Edges.{Edge, IsFragmentEdge, StayBelow, RuleIn}
use Rattle.lw_gramcheck.proofs.CircleLemmas.{circular_fragments, fragments_below}
use Rattle.lw_gramcheck.proofs.parts.circles.find_circular_fragments.Goals as goal

pub graph_of-requires : goal.graph_of-requires
graph_of-requires c =
    let P : List Edge → Type 0 = StayBelow (length c.as_slice-rules.result.now) in
    let Q : List Rule → Type 0 = λ rules. StayBelow (length rules) c.in_ok-edges.edges.items in
    subst P (sym c.as_slice.ensures.value) (subst Q (sym c.as_slice-rules.ensures) (fragments_below c.args.checker.now.g.now c.in_ok-edges.ensures))

pub returns : goal.returns
returns c =
    let g = c.args.checker.now.g.now in
    let P : List Edge → Type 0 = λ edges. Finds (IsFragmentEdge g) [] edges in
    let Q : List Rule → Type 0 = λ rules. Finds (AtSome (RuleIn c.in_ok-round.round) rules) c.args.found.now c.find_rules_in.new.found in
    circular_fragments g c.in_ok-graph.graph c.as_slice.result.now c.in_ok-graph.ensures c.in_ok-round.round c.in_ok-round.ensures
    (subst P (sym c.as_slice.ensures.value) c.in_ok-edges.ensures) (subst Q c.as_slice-rules.ensures c.in_ok-find_rules_in.ensures)
