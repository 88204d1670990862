use Rattle.std.proofs.Common.{◌≡◌, ◌+◌, ◌++◌, ◌∷◌, [], List, Vec, Global, ap, subst, sym, ◌∙◌}
use Rattle.lw_index.specs.declared.refs.uses.Use.{Use}
use Rattle.lw_index.proofs.Turns.{AreUsesUpTo, all_of_them, one_missing, one_found, use_of, answer_at}
use Rattle.lw_index.proofs.refs.uses.uses_in_turn.Goals as goal
use Rattle.lw_index.proofs.refs.uses.uses_in_turn.Goals.{in-Found+in_ok-push-in-Found, in-Missing}

pub loop-place-preserved : goal.loop-place-preserved
loop-place-preserved c =
    let answers = c.args.answers.now in
    let place = c.loop-place.place in
    let uses = c.loop-place.uses.items in
    let P : List Use → Type 0 = AreUsesUpTo answers (place + 1) in
    elim c.match-answer.branch [
      | in-Found+in_ok-push-in-Found w ↦ (
          let is : c.match-answer.uses.items ≡ uses ++ use_of w.in-Found.target place ∷ [] = ap (λ (v : Vec Use Global). v.items) w.uses-is ∙ w.in_ok-push-in-Found.ensures.items in
          subst P (sym is) (one_found answers place uses c.loop-place.invariant w.in-Found.target (answer_at answers place _ _ c.loop-place-test.true w.in-Found.is)))
      | in-Missing w ↦ subst P (sym (ap (λ (v : Vec Use Global). v.items) w.uses-is)) (one_missing answers place uses c.loop-place.invariant (answer_at answers place _ _ c.loop-place-test.true w.in-Missing.is))
    ]

pub returns : goal.returns
returns c = all_of_them c.args.answers.now c.loop-place.place c.loop-place.uses.items c.loop-place-test.false c.loop-place.invariant
