use Rattle.std.proofs.Common.{Contains, List, subst, sym}
use Rattle.lw_index.specs.declared.parts.Answer.{Answer}
use Rattle.lw_index.specs.declared.refs.uses.Use.{Use}
use Rattle.lw_index.specs.Pairs.{LeadsInto}
use Rattle.lw_index.proofs.refs.leads.Leads.leads_into.Goals as goal

pub returns : goal.returns
returns c leads =
    let into : LeadsInto c.self.inside.answers.items c.args.doc = subst (λ (list : List Answer). LeadsInto list c.args.doc) (sym c.self.view_is) leads in
    let u : Use = record { doc = into.target.doc.0; node = into.target.node.0; reference = into.reference } in
    let has : Contains c.as_slice.result.now u = subst (λ (uses : List Use). Contains uses u) (sym c.as_slice.ensures.value) ((c.self.invariant.exact u).1 into.found) in
    c.leads_into.ensures u has into.into
