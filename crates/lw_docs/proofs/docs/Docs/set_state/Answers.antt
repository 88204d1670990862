use Rattle.std.proofs.Common.{◌≡◌, ◌<◌, length, Some, refl, sym, ap, subst, ◌∙◌}
use Rattle.lw_docs.specs.declared.doc.Doc.{Doc}
use Rattle.std.specs.FinMap as all
use Rattle.lw_docs.specs.Documents.{numbered}
use Rattle.lw_docs.specs.Table.{doc_in, held_in}
use Rattle.lw_docs.proofs.Spares.{SameBut}
use Rattle.lw_docs.proofs.Keeping.{is_doc, held_within, kept_as, kept_turned, put_over}
use Rattle.lw_docs.proofs.View.{turned_held}
use Rattle.lw_docs.proofs.docs.Docs.set_state.Goals as goal

pub turn_to-requires-clause-within : goal.turn_to-requires-clause-within
turn_to-requires-clause-within c =
    let s = c.self.inside in
    let within = held_within s.slots.items s.spare.items _ s.cells.items s.numbers c.self.invariant c.args.self.now c.self.view_is c.args.d c.requires in
    subst (λ n. c.args.d.0 < n) (sym (ap length c.as_mut_slice-2.ensures.value ∙ c.self.invariant.places)) within

pub invariant_of-self : goal.invariant_of-self
invariant_of-self c =
    let s = c.self.inside in
    let x : Doc = c.requires.0 in
    let y : Doc = record x { state = c.args.state } in
    let was = is_doc s.slots.items s.spare.items _ s.cells.items s.numbers c.self.invariant c.args.self.now c.self.view_is c.args.d x c.requires.1 in
    let table : c.as_mut_slice.result.now ≡ s.slots.items = c.as_mut_slice.ensures.value in
    let here : doc_in c.turn_to.new.slots c.args.d.0 ≡ Some y = c.turn_to.ensures.here x (ap (λ l. doc_in l c.args.d.0) table ∙ was) in
    let others : SameBut c.args.d.0 s.slots.items c.turn_to.new.slots = λ n other. c.turn_to.ensures.others n other ∙ ap (λ l. doc_in l n) table in
    let long : length c.turn_to.new.slots ≡ length s.slots.items = c.turn_to.ensures.slots ∙ ap length table in
    let even : length c.turn_to.new.cells ≡ length s.cells.items = c.turn_to.ensures.len ∙ ap length c.as_mut_slice-2.ensures.value in
    kept_as c.turn_to.new.slots _ s.spare.items _ _ _ c.turn_to.new.cells _ s.numbers
    (put_over s.slots.len c.turn_to.new.slots s.slots.items s.slots.ok.0 long) refl refl (put_over s.cells.len c.turn_to.new.cells s.cells.items s.cells.ok.0 even)
    (kept_turned s.slots.items c.turn_to.new.slots s.spare.items _ s.cells.items s.numbers c.self.invariant c.args.d x y was refl others here long c.turn_to.new.cells c.turn_to.ensures.all even)

pub returns : goal.returns
returns c x at =
    let s = c.self.inside in
    let y : Doc = record x { state = c.args.state } in
    let was = is_doc s.slots.items s.spare.items _ s.cells.items s.numbers c.self.invariant c.args.self.now c.self.view_is c.args.d x at in
    let table : c.as_mut_slice.result.now ≡ s.slots.items = c.as_mut_slice.ensures.value in
    let here : doc_in c.turn_to.new.slots c.args.d.0 ≡ Some y = c.turn_to.ensures.here x (ap (λ l. doc_in l c.args.d.0) table ∙ was) in
    let others : SameBut c.args.d.0 s.slots.items c.turn_to.new.slots = λ n other. c.turn_to.ensures.others n other ∙ ap (λ l. doc_in l n) table in
    let long : length c.turn_to.new.slots ≡ length s.slots.items = c.turn_to.ensures.slots ∙ ap length table in
    ap (λ l. held_in l s.numbers) (put_over s.slots.len c.turn_to.new.slots s.slots.items s.slots.ok.0 long)
    ∙ turned_held s.slots.items c.turn_to.new.slots s.numbers c.self.invariant.names c.args.d x y was refl others here
    ∙ ap (λ v. all.insert v x.uri (numbered c.args.d y)) c.self.view_is
