use Rattle.std.proofs.Common.{refl, sym, subst, ◌∙◌, ◌<◌}
use Rattle.lw_docs.specs.declared.doc.Doc.{Doc}
use Rattle.lw_docs.proofs.Keeping.{held_within, never_none, set_kept, set_turns}
use Rattle.lw_docs.proofs.docs.Docs.set_version.Goals as goal

pub index_mut-requires : goal.index_mut-requires
index_mut-requires c =
    let s = c.self.inside in
    subst (λ n. c.args.d.0 < n) (sym s.slots.ok.0) (held_within s.slots.items s.spare.items _ s.cells.items s.numbers c.self.invariant c.args.self.now c.self.view_is c.args.d c.requires)

pub unreachable-requires : goal.unreachable-requires
unreachable-requires c =
    let s = c.self.inside in
    never_none s.slots.items s.spare.items _ s.cells.items s.numbers c.self.invariant c.args.self.now c.self.view_is c.args.d c.requires c.index_mut.result.now (sym c.index_mut.ensures.value ∙ c.in-None.is)

pub invariant_of-self : goal.invariant_of-self
invariant_of-self c =
    let s = c.self.inside in
    set_kept s.slots.items s.spare.items _ s.cells.items s.numbers c.self.invariant c.args.self.now c.self.view_is c.args.d c.requires
    c.in-Some.doc c.index_mut.result.now (sym c.index_mut.ensures.value ∙ c.in-Some.is) _ refl refl

pub returns : goal.returns
returns c =
    let s = c.self.inside in
    set_turns s.slots.items s.spare.items _ s.cells.items s.numbers c.self.invariant c.args.self.now c.self.view_is c.args.d c.requires
    c.in-Some.doc c.index_mut.result.now (sym c.index_mut.ensures.value ∙ c.in-Some.is) (λ (x : Doc). record x { version = c.args.version }) (λ _. refl)
