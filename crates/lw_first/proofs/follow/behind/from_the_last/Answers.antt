use Rattle.std.proofs.Common.{◌≡◌, ℕ, ◌+◌, ◌-◌, ◌↔◌, List, ◌++◌, ◌∷◌, [], length, drop, reverse, sym, ap, ◌∙◌, subst, arith}
use Rattle.std.proofs.lemmas.List.{length_push}
use Rattle.lw_look.specs.Sites.{Body}
use Rattle.lw_first.specs.Sets.{IsAmongHeads}
use Rattle.lw_kinds.proofs.PassingForms.{left_here}
use Rattle.lw_first.specs.Before.{CanBefore, RowCanBefore}
use Rattle.lw_first.specs.Followed.{AreBehind}
use Rattle.lw_first.specs.Rows.{AreFoundBehind}
use Rattle.lw_first.proofs.RowBehind.{one_more_part, none_behind, found_none, found_more, all_found}
use Rattle.lw_first.proofs.follow.behind.from_the_last.Goals as goal

pub parts-init : goal.parts-init
parts-init c =
    let first = c.args.first.now in
    let parts = c.args.parts.now in
    let after = c.args.after.now in
    let empty = ap length c.in_ok-sets.ensures.items in
    record {
      left = omega (arith, empty, c.requires.some);
      found = λ kinds are. subst (AreFoundBehind first.lexicon.g.now kinds first.k first.heads.now parts after) (sym c.in_ok-sets.ensures.items)
          (found_none first.lexicon.g.now kinds first.k first.heads.now parts after);
      behind = λ kinds are. none_behind first.lexicon.g.now kinds first.k first.heads.now parts after (length parts - 1 + 1) (omega arith) c.in_ok-behind.behind
          c.in_ok-behind.ensures;
    }

pub parts-preserved : goal.parts-preserved
parts-preserved c =
    let first = c.args.first.now in
    let g = first.lexicon.g.now in
    let parts = c.args.parts.now in
    let after = c.args.after.now in
    let sets = c.parts.sets.items in
    let behind = c.parts.behind in
    let before = c.in_ok-in_front.in_front in
    let place = c.parts.place in
    let was = c.parts.invariant in
    let pushed = c.in_ok-push.ensures.items in
    let size = ap length pushed ∙ length_push sets behind in
    let from_end : place + 1 ≡ length parts - length sets = omega (arith, was.left) in
    let here : place - 1 + 1 ≡ place = omega (arith, c.parts-test.true) in
    record {
      left = omega (arith, size, was.left, c.parts-test.true);
      found = λ kinds are. subst (AreFoundBehind g kinds first.k first.heads.now parts after) (sym pushed)
          (found_more g kinds first.k first.heads.now parts after sets behind (was.found kinds are)
          (subst (λ n. (h : List ℕ) → IsAmongHeads behind h ↔ RowCanBefore g kinds first.k first.heads.now (drop n parts) after h) from_end (was.behind kinds are)));
      behind = λ kinds are. subst (λ n. (h : List ℕ) → IsAmongHeads before h ↔ RowCanBefore g kinds first.k first.heads.now (drop n parts) after h) (sym here)
          (one_more_part g kinds first.k first.heads.now parts after place c.index-parts-place.result behind before
          (left_here parts place c.index-parts-place.result (omega (arith, was.left)) c.index-parts-place.is) (was.behind kinds are)
          (subst (λ heads. (h : List ℕ) → IsAmongHeads before h ↔ CanBefore g kinds first.k first.heads.now (Body c.index-parts-place.result) heads h)
          c.as_slice.ensures (c.in_ok-in_front.ensures kinds are)));
    }

pub returns : goal.returns
returns c kinds are =
    let first = c.args.first.now in
    let g = first.lexicon.g.now in
    let parts = c.args.parts.now in
    let after = c.args.after.now in
    let sets = c.parts.sets.items in
    let behind = c.parts.behind in
    let was = c.parts.invariant in
    let pushed = c.in_ok-push-2.ensures.items in
    let size = length_push sets behind in
    let from_end : c.parts.place + 1 ≡ length parts - length sets = omega (arith, was.left) in
    subst (λ xs. AreBehind g kinds first.k first.heads.now parts after (reverse xs)) (sym pushed)
    (all_found g kinds first.k first.heads.now parts after (sets ++ behind ∷ []) (omega (arith, size, was.left, c.parts-test.false))
    (found_more g kinds first.k first.heads.now parts after sets behind (was.found kinds are)
    (subst (λ n. (h : List ℕ) → IsAmongHeads behind h ↔ RowCanBefore g kinds first.k first.heads.now (drop n parts) after h) from_end (was.behind kinds are))))
