use Rattle.std.proofs.Common.{ℕ, List, map, ap, ◌∙◌}
use Rattle.std.specs.FinMap.{entries}
use Rattle.lw_docs.specs.Documents.{Numbered}
use Rattle.lw_docs.proofs.View.{uris_are}
use Rattle.lw_docs.proofs.docs.Docs.uris.Goals as goal

pub returns-clause-rest : goal.returns-clause-rest
returns-clause-rest c =
    let s = c.self.inside in
    c.iter.ensures.rest ∙ uris_are s.slots.items s.numbers c.self.invariant.names.ordered
    ∙ ap (λ v. map (λ (e : List ℕ × Numbered). (e.0, e.1.number)) (entries v)) c.self.view_is
