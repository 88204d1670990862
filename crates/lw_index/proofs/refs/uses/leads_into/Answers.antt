use Rattle.std.proofs.Common.{◌≡◌, get_or, ap, ◌∙◌, eq-eqb, arith}
use Rattle.lw_index.specs.declared.refs.uses.Use.{Use}
use Rattle.lw_index.proofs.Halves.{first_into}
use Rattle.lw_index.proofs.refs.uses.leads_into.Goals as goal

pub returns-in-Some : goal.returns-in-Some
returns-in-Some c u has e =
    let first = first_into c.args.doc c.args.uses.now c.requires c.first_not_before.result c.first_not_before.ensures.point u has e in
    let at : c.in-Some.found.now ≡ get_or c.args.uses.now c.first_not_before.result u = c.in-Some.ensures.lookup.4 (omega arith) u in
    eq-eqb c.in-Some.found.now.doc c.args.doc (ap (λ (v : Use). v.doc) at ∙ first.1)
