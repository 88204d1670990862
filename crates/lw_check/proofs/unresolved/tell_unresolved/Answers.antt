use Rattle.std.proofs.Common.{◌≡◌, ◌<◌, ◌≤◌, List, Some, length, slice_get, sym, ap, subst, ◌∙◌, arith}
use Rattle.std.proofs.lemmas.Option.{slice_get-get_or}
use Rattle.lw_faults.proofs.Joining.{Finds-at-more, Finds-at-all}
use Rattle.lw_tree.specs.declared.node.Reference.{Reference}
use Rattle.lw_check.specs.Telling.{TellsAnswerAt}
use Rattle.lw_check.proofs.Answered.{told_at}
use Rattle.lw_check.proofs.unresolved.tell_unresolved.Goals as goal

pub loop-place-preserved : goal.loop-place-preserved
loop-place-preserved c g types =
    let place = c.loop-place.place in
    let read = c.refs-reference-items.result.now in
    let at : slice_get c.args.tree.now.refs place ≡ Some c.reference-item.result =
    ap (λ (list : List Reference). slice_get list place) (sym c.refs-reference-items.ensures) ∙ slice_get-get_or read place c.reference-item.result c.loop-place-test.true
    ∙ ap Some (sym c.reference-item.is) in
    let inside : place < length c.args.answers.now =
    omega (arith, c.loop-place-test.true, c.requires.count, ap (λ (list : List Reference). length list) c.refs-reference-items.ensures) in
    Finds-at-more (TellsAnswerAt g c.args.answers.now) c.args.tree.now.refs place c.reference-item.result at (c.loop-place.invariant g types)
    (told_at g c.args.answers.now place _ c.reference-item.result (slice_get-get_or c.args.answers.now place _ inside) (c.in_ok-tell_answer.ensures g types))

pub returns : goal.returns
returns c g types =
    let past : length c.args.tree.now.refs ≤ c.loop-place.place =
    subst (λ (list : List Reference). length list ≤ c.loop-place.place) c.refs-reference-items.ensures c.loop-place-test.false in
    Finds-at-all (TellsAnswerAt g c.args.answers.now) c.args.tree.now.refs c.loop-place.place past (c.loop-place.invariant g types)
