use Rattle.std.proofs.Common.{◌≡◌, ◌+◌, ◌∙◌, drop, refl, sym, subst, ap}
use Rattle.std.proofs.lemmas.List.{drop_more, drop_all}
use Rattle.lw_program.specs.Making.{AreRecipesOf}
use Rattle.lw_builder.specs.Built.{ArePartsOf, visible_of}
use Rattle.lw_builder.proofs.AllMarks.{IsUnderway, underway, started, next_mark, closes_at_end, opened, visible_parts}
use Rattle.lw_builder.proofs.Results.{if_ok}
use Rattle.lw_builder.proofs.marks.tree_of.Goals as goal

pub marks-init : goal.marks-init
marks-init c =
    let first = c.in_ok-builder.builder in
    let seen : c.as_slice-2.result.now ≡ visible_of c.args.tokens.items = c.as_slice-2.ensures.value ∙ c.in_ok-visible.ensures ∙ ap visible_of c.as_slice.ensures.value in
    let parts = subst (λ l. ArePartsOf c.args.text.now l) (sym seen) (visible_parts c.args.text.now c.args.tokens.items c.requires.parts) in
    record {
      all = λ g m bs are meant f.
          underway g c.args.marks.now m first.visible.now bs first (c.in_ok-builder.ensures.nothing g (subst (λ l. AreRecipesOf g l) c.in_ok-builder.ensures.over.2 are) parts)
          meant f refl;
      over = record { text = refl; visible = refl; recipes = refl };
    }

pub mark-requires : goal.mark-requires
mark-requires c =
    let r = c.requires.follows in
    let o = c.in_ok-builder.ensures.over in
    let seen : c.as_slice-2.result.now ≡ visible_of c.args.tokens.items = c.as_slice-2.ensures.value ∙ c.in_ok-visible.ensures ∙ ap visible_of c.as_slice.ensures.value in
    let u = started r.0 c.args.marks.now (drop c.marks.mark-index c.args.marks.now) r.1 r.2 c.args.text.now (visible_of c.args.tokens.items) c.args.recipes.now
    c.in_ok-builder.builder c.marks.builder c.marks.invariant.all o.0 (o.1 ∙ seen) o.2 r.4 r.5 r.6 in
    let n = next_mark r.0 r.1 r.2 _ _ c.marks.builder
    (subst (λ l. IsUnderway r.0 r.1 r.2 l c.marks.builder) (drop_more c.args.marks.now c.marks.mark-index _ c.marks-test.true) u) in
    record { goes_on = (r.0, n.gone, n.it, n.brackets, n.then_open, n.followed, n.means, n.by) }

pub marks-preserved : goal.marks-preserved
marks-preserved c =
    let over = c.mark.ensures.over in
    let now = c.marks.invariant.over in
    record {
      all = λ g m bs are meant f.
          let u = c.marks.invariant.all g m bs are meant f in
          let n = next_mark g m bs _ (drop (c.marks.mark-index + 1) c.args.marks.now) c.marks.builder
          (subst (λ l. IsUnderway g m bs l c.marks.builder) (drop_more c.args.marks.now c.marks.mark-index _ c.marks-test.true) u) in
          n.onward c.mark.new.self (c.in_ok-mark.ensures.followed g n.gone n.it n.brackets n.then_open n.followed n.means n.by) over.text over.visible;
      over = record { text = over.text ∙ now.text; visible = over.visible ∙ now.visible; recipes = over.recipes ∙ now.recipes };
    }

pub tree-requires-clause-closes : goal.tree-requires-clause-closes
tree-requires-clause-closes c =
    let r = c.requires.follows in
    let o = c.in_ok-builder.ensures.over in
    let seen : c.as_slice-2.result.now ≡ visible_of c.args.tokens.items = c.as_slice-2.ensures.value ∙ c.in_ok-visible.ensures ∙ ap visible_of c.as_slice.ensures.value in
    let u = started r.0 c.args.marks.now (drop c.marks.mark-index c.args.marks.now) r.1 r.2 c.args.text.now (visible_of c.args.tokens.items) c.args.recipes.now
    c.in_ok-builder.builder c.marks.builder c.marks.invariant.all o.0 (o.1 ∙ seen) o.2 r.4 r.5 r.6 in
    let e = closes_at_end r.0 r.1 r.2 r.3 c.args.text.now (visible_of c.args.tokens.items) c.marks.builder
    (subst (λ l. IsUnderway r.0 r.1 r.2 l c.marks.builder) (drop_all c.marks.mark-index c.args.marks.now c.marks-test.false) u)
    (c.marks.invariant.over.text ∙ o.0) (c.marks.invariant.over.visible ∙ o.1 ∙ seen) r.7 in
    (r.0, r.1, r.2, r.3, e.0, e.1)

pub returns : goal.returns
returns c = λ g m bs x are meant f closes.
    let o = c.in_ok-builder.ensures.over in
    let seen : c.as_slice-2.result.now ≡ visible_of c.args.tokens.items = c.as_slice-2.ensures.value ∙ c.in_ok-visible.ensures ∙ ap visible_of c.as_slice.ensures.value in
    let u = started g c.args.marks.now (drop c.marks.mark-index c.args.marks.now) m bs c.args.text.now (visible_of c.args.tokens.items) c.args.recipes.now
    c.in_ok-builder.builder c.marks.builder c.marks.invariant.all o.0 (o.1 ∙ seen) o.2 are meant f in
    let e = closes_at_end g m bs x c.args.text.now (visible_of c.args.tokens.items) c.marks.builder
    (subst (λ l. IsUnderway g m bs l c.marks.builder) (drop_all c.marks.mark-index c.args.marks.now c.marks-test.false) u)
    (c.marks.invariant.over.text ∙ o.0) (c.marks.invariant.over.visible ∙ o.1 ∙ seen) closes in
    if_ok c.tree.result _ _ (c.tree.ensures g m bs x e.0 e.1)
    (λ tree same. opened g c.args.text.now m (visible_of c.args.tokens.items) c.args.tokens.items bs x c.marks.builder.recipes.now tree e.0.recipes f closes same)
