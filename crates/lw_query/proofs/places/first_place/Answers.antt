-- What is found by looking is first.
use Rattle.std.proofs.Common.{List, position, sym, ap, ◌∙◌}
use Rattle.lw_tree.specs.declared.node.Reference.{Reference}
use Rattle.lw_query.specs.Looking.{is_at}
use Rattle.lw_query.proofs.Looked.{name_is_first, nothing_there, reference_is_first}
use Rattle.lw_query.proofs.places.first_place.Goals as goal

pub returns-in-Some : goal.returns-in-Some
returns-in-Some c = name_is_first c.args.side c.args.off c.args.tree.now c.in-Some.n c.in-Some.ensures

pub returns-in-Some-first_reference : goal.returns-in-Some-first_reference
returns-in-Some-first_reference c =
    let at = ap (λ (refs : List Reference). position (λ (r : Reference). is_at c.args.side c.args.off r.span) refs) (sym c.refs.ensures)
    ∙ sym c.first_reference.ensures in
    reference_is_first c.args.side c.args.off c.args.tree.now c.in_default.ensures c.in-Some-first_reference.i (at ∙ c.in-Some-first_reference.is)

pub returns-in-None : goal.returns-in-None
returns-in-None c =
    let at = ap (λ (refs : List Reference). position (λ (r : Reference). is_at c.args.side c.args.off r.span) refs) (sym c.refs.ensures)
    ∙ sym c.first_reference.ensures in
    nothing_there c.args.side c.args.off c.args.tree.now c.in_default.ensures (at ∙ c.in-None.is)
