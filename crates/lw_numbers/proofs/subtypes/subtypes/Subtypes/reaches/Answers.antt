use Rattle.std.proofs.Common.{IsTrue, Contains, ◌↔◌, slice_get, sym, ap, ◌∙◌, subst}
use Rattle.std.proofs.lemmas.Option.{slice_get_within, get_or_from_slice_get}
use Rattle.lw_numbers.specs.Ascending.{IsAscending}
use Rattle.lw_numbers.proofs.Finding.{row_has}
use Rattle.lw_numbers.proofs.subtypes.subtypes.Subtypes.reaches.Goals as goal

pub returns-clause-row : goal.returns-clause-row
returns-clause-row c = λ row at.
    let rows = c.self.inside.above.items in
    let low = c.args.low in
    let searched = c.as_slice-row.result.now in
    let here = ap (λ xs. slice_get xs low) (ap (λ t. t.above) c.self.view_is) ∙ at in
    let is = c.as_slice-row.ensures ∙ c.index.ensures ∙ get_or_from_slice_get rows low row c.index.result.now here in
    let ascends = subst IsAscending (get_or_from_slice_get rows low row row here) (c.self.invariant.2 low row (slice_get_within rows low row here)) in
    let found = row_has searched c.args.high c.binary_search.result c.is_ok.result c.is_ok.ensures.value (subst IsAscending (sym is) ascends) c.binary_search.ensures.position in
    subst (λ xs. IsTrue c.is_ok.result ↔ Contains xs c.args.high) is found
