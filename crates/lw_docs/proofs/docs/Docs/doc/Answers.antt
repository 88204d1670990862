use Rattle.std.proofs.Common.{sym, subst, ◌∙◌, ◌<◌}
use Rattle.lw_docs.proofs.Keeping.{held_within, never_none, was_read, is_at_view}
use Rattle.lw_docs.proofs.docs.Docs.doc.Goals as goal

pub index-requires : goal.index-requires
index-requires c =
    let s = c.self.inside in
    subst (λ n. c.args.d.0 < n) (sym s.slots.ok.0) (held_within s.slots.items s.spare.items _ s.cells.items s.numbers c.self.invariant c.args.self.now c.self.view_is c.args.d c.requires)

pub unreachable-requires : goal.unreachable-requires
unreachable-requires c =
    let s = c.self.inside in
    never_none s.slots.items s.spare.items _ s.cells.items s.numbers c.self.invariant c.args.self.now c.self.view_is c.args.d c.requires c.index.result.now (sym c.index.ensures ∙ c.in-None.is)

pub returns : goal.returns
returns c =
    let s = c.self.inside in
    is_at_view s.slots.items s.spare.items _ s.cells.items s.numbers c.self.invariant c.args.self.now c.self.view_is c.args.d c.in-Some.doc
    (was_read s.slots.items s.spare.items _ s.cells.items s.numbers c.self.invariant c.args.self.now c.self.view_is c.args.d c.requires c.in-Some.doc c.index.result.now (sym c.index.ensures ∙ c.in-Some.is))
