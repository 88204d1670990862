use Rattle.std.proofs.Common.{◌+◌, sym, subst, ◌∙◌, arith}
use Rattle.lw_index.specs.Least.{seen, IsLeastFound}
use Rattle.lw_index.proofs.Wanted.{IsBelow, passed_over, taken_in, all_below}
use Rattle.lw_index.proofs.exporters.first_wanted.Goals as goal
use Rattle.lw_index.proofs.exporters.first_wanted.Goals.{then-holds, else-holds}

pub returns-then-found-last : goal.returns-then-found-last
returns-then-found-last c =
    let es = c.args.exporters.now in
    let types = c.args.types.now in
    let found = c.in-Some-next_type.found in
    let none = c.in-Some-next_type.ensures in
    let kept = c.loop-found.invariant in
    let step : IsLeastFound (IsBelow es types c.args.except (found + 1)) (seen c.if-holds.best) = elim c.if-holds.branch [
      | then-holds w ↦ subst (λ b. IsLeastFound (IsBelow es types c.args.except (found + 1)) (seen b)) (sym w.best-is)
          (taken_in es types c.args.except c.loop-found.from found (seen c.loop-found.best) (seen w.first_of_type.result) (seen w.lesser-best.result) none.0 none.1 (sym c.holds.ensures ∙ w.if-holds.true) kept.1 w.first_of_type.ensures w.lesser-best.ensures)
      | else-holds w ↦ subst (λ b. IsLeastFound (IsBelow es types c.args.except (found + 1)) (seen b)) (sym w.best-is)
          (passed_over es types c.args.except c.loop-found.from found (seen c.loop-found.best) none.0 none.1 (sym c.holds.ensures ∙ w.if-holds.false) kept.1)
    ] in
    all_below es types c.args.except (found + 1) (seen c.if-holds.best) (λ t u le. c.in-Some.ensures t u (omega arith)) step

pub loop-found-preserved : goal.loop-found-preserved
loop-found-preserved c =
    let es = c.args.exporters.now in
    let types = c.args.types.now in
    let found = c.in-Some-next_type.found in
    let none = c.in-Some-next_type.ensures in
    let kept = c.loop-found.invariant in
    let step : IsLeastFound (IsBelow es types c.args.except (found + 1)) (seen c.if-holds.best) = elim c.if-holds.branch [
      | then-holds w ↦ subst (λ b. IsLeastFound (IsBelow es types c.args.except (found + 1)) (seen b)) (sym w.best-is)
          (taken_in es types c.args.except c.loop-found.from found (seen c.loop-found.best) (seen w.first_of_type.result) (seen w.lesser-best.result) none.0 none.1 (sym c.holds.ensures ∙ w.if-holds.true) kept.1 w.first_of_type.ensures w.lesser-best.ensures)
      | else-holds w ↦ subst (λ b. IsLeastFound (IsBelow es types c.args.except (found + 1)) (seen b)) (sym w.best-is)
          (passed_over es types c.args.except c.loop-found.from found (seen c.loop-found.best) none.0 none.1 (sym c.holds.ensures ∙ w.if-holds.false) kept.1)
    ] in
    (omega arith, step)

pub returns : goal.returns
returns c = all_below c.args.exporters.now c.args.types.now c.args.except c.loop-found.from (seen c.loop-found.best) c.in_default-next_type.ensures c.loop-found.invariant.1
