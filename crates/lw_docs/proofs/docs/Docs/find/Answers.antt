use Rattle.std.proofs.Common.{ap, ◌∙◌, subst}
use Rattle.std.specs.FinMap.{get}
use Rattle.std.specs.Option.{option_map}
use Rattle.lw_docs.specs.Documents.{Numbered, AreNumbered}
use Rattle.lw_docs.proofs.Callers.{found_held, not_found}
use Rattle.lw_docs.proofs.View.{are_numbered, number_at}
use Rattle.lw_docs.proofs.docs.Docs.find.Goals as goal

pub returns-clause-number : goal.returns-clause-number
returns-clause-number c =
    let s = c.self.inside in
    c.copied.ensures ∙ c.get.ensures.value ∙ number_at s.slots.items s.numbers c.self.invariant.names.ordered c.args.uri.now
    ∙ ap (λ v. option_map (λ (h : Numbered). h.number) (get v c.args.uri.now)) c.self.view_is

pub returns-clause-vacant : goal.returns-clause-vacant
returns-clause-vacant c = not_found c.args.self.now c.args.uri.now c.copied.result (returns-clause-number c)

pub returns-clause-held : goal.returns-clause-held
returns-clause-held c =
    let s = c.self.inside in
    found_held c.args.self.now (subst AreNumbered c.self.view_is (are_numbered s.slots.items s.numbers c.self.invariant.names)) c.args.uri.now c.copied.result (returns-clause-number c)
