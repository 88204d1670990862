use Rattle.std.proofs.Common.{sym, ◌∙◌}
use Rattle.std.proofs.lemmas.Result.{on_ok_weaker}
use Rattle.lw_gramcheck.proofs.TellingLemmas.{told_late, told_early}
use Rattle.lw_gramcheck.proofs.order.order.find_at_action.Goals as goal
use Rattle.lw_gramcheck.proofs.order.order.find_at_action.Goals.{in-None, in-Some}

pub returns-then-misplaced : goal.returns-then-misplaced
returns-then-misplaced c =
    let rule = c.args.rule.now in
    let a = c.args.action.now in
    let entry = c.args.entry.now in
    λ g. elim c.match-action.branch [
      | in-None w ↦ on_ok_weaker c.add.result (told_late g rule entry a w.in-None.is (sym w.misplaced-is ∙ c.if-misplaced.true)) c.add.ensures
      | in-Some w ↦ on_ok_weaker c.add.result (told_early g rule entry a w.in-Some.field-0 w.in-Some.is (sym w.misplaced-is ∙ c.if-misplaced.true)) c.add.ensures
    ]
