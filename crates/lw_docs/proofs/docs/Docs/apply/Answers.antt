use Rattle.std.proofs.Common.{refl, sym, subst, ◌∙◌, ◌<◌, inl, inr}
use Rattle.std.specs.Prelude.{Result, Ok, Err, OnOk, IfErr}
use Rattle.lw_text.specs.Changes.{Changes}
use Rattle.lw_docs.specs.declared.doc.Doc.{Doc}
use Rattle.lw_docs.proofs.Keeping.{held_within, never_none, read_is, set_kept, set_turns}
use Rattle.lw_docs.proofs.docs.Docs.apply.Goals as goal

pub index_mut-requires : goal.index_mut-requires
index_mut-requires c =
    let s = c.self.inside in
    subst (λ n. c.args.d.0 < n) (sym s.slots.ok.0) (held_within s.slots.items s.spare.items _ s.cells.items s.numbers c.self.invariant c.args.self.now c.self.view_is c.args.d c.requires)

pub unreachable-requires : goal.unreachable-requires
unreachable-requires c =
    let s = c.self.inside in
    never_none s.slots.items s.spare.items _ s.cells.items s.numbers c.self.invariant c.args.self.now c.self.view_is c.args.d c.requires c.index_mut.result.now (sym c.index_mut.ensures.value ∙ c.in-None.is)

pub invariant_of-self : goal.invariant_of-self
invariant_of-self c =
    let s = c.self.inside in
    set_kept s.slots.items s.spare.items _ s.cells.items s.numbers c.self.invariant c.args.self.now c.self.view_is c.args.d c.requires
    c.in-Some.doc c.index_mut.result.now (sym c.index_mut.ensures.value ∙ c.in-Some.is) _ refl refl

module _ {T E : Type 0} where
  on_ok : (r : Result T E) (P Q : Type 0) → OnOk r P → (P → Q) → OnOk r Q
  on_ok (Ok x) P Q p f = f p
  on_ok (Err e) P Q p f = tt

  if_err : (r : Result T E) (P Q : E → Type 0) → IfErr r P → ((e : E) → P e → Q e) → IfErr r Q
  if_err (Ok x) P Q p f = tt
  if_err (Err e) P Q p f = f e p

pub returns-clause-made : goal.returns-clause-made
returns-clause-made c =
    let s = c.self.inside in
    on_ok c.apply.result _ _ c.apply.ensures.changed (λ made x at. (
      c.apply.new.self,
      subst (λ (z : Doc). Changes c.args.enc z.text c.args.changes.now (Ok c.apply.new.self))
          (read_is s.slots.items s.spare.items _ s.cells.items s.numbers c.self.invariant c.args.self.now c.self.view_is c.args.d c.requires
          c.in-Some.doc c.index_mut.result.now (sym c.index_mut.ensures.value ∙ c.in-Some.is) x at) made,
      set_turns s.slots.items s.spare.items _ s.cells.items s.numbers c.self.invariant c.args.self.now c.self.view_is c.args.d c.requires
          c.in-Some.doc c.index_mut.result.now (sym c.index_mut.ensures.value ∙ c.in-Some.is) (λ (x : Doc). record x { text = c.apply.new.self }) (λ _. refl) x at,
    ))

pub returns-clause-fault : goal.returns-clause-fault
returns-clause-fault c =
    let s = c.self.inside in
    if_err c.apply.result _ _ c.apply.ensures.fault (λ fault why. elim why [
      | inl refused ↦ inl refused
      | inr told ↦ inr (λ x at. subst (λ (z : Doc). Changes c.args.enc z.text c.args.changes.now (Err fault))
          (read_is s.slots.items s.spare.items _ s.cells.items s.numbers c.self.invariant c.args.self.now c.self.view_is c.args.d c.requires
          c.in-Some.doc c.index_mut.result.now (sym c.index_mut.ensures.value ∙ c.in-Some.is) x at) told)
    ])
