use Rattle.std.proofs.Common.{◌≡◌, Some, None, refl, sym, ap, subst, ◌∙◌}
use Rattle.lw_docs.specs.Knockout.{cell_at}
use Rattle.lw_docs.specs.Least.{IsLeast, AllValidated}
use Rattle.lw_docs.proofs.First.{least_is, none_waits}
use Rattle.lw_docs.proofs.docs.Docs.least.Goals as goal

pub returns-in-Some-clause-least : goal.returns-in-Some-clause-least
returns-in-Some-clause-least c =
    let s = c.self.inside in
    let first : cell_at s.cells.items 0 ≡ Some c.in-Some.first = sym (c.cell.ensures ∙ ap (λ l. cell_at l 0) c.as_slice.ensures.value) ∙ c.in-Some.is in
    subst (λ v. IsLeast v (record { 0 = c.in-Some.first.number })) c.self.view_is
    (least_is s.slots.items s.numbers c.self.invariant.names s.cells.items c.self.invariant.knockout c.self.invariant.places c.in-Some.first (record { 0 = c.in-Some.first.number }) refl first)

pub returns-in-None-clause-least : goal.returns-in-None-clause-least
returns-in-None-clause-least c =
    let s = c.self.inside in
    let none : cell_at s.cells.items 0 ≡ None = sym (c.cell.ensures ∙ ap (λ l. cell_at l 0) c.as_slice.ensures.value) ∙ c.in-None.is in
    subst AllValidated c.self.view_is (none_waits s.slots.items s.numbers c.self.invariant.names s.cells.items c.self.invariant.knockout c.self.invariant.places none)

pub returns-in-Some-clause-held : goal.returns-in-Some-clause-held
returns-in-Some-clause-held c = let least = returns-in-Some-clause-least c in (least.doc, least.at)
