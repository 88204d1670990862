use Rattle.std.proofs.Common.{◌∷◌, [], Ok, Err, refl, ap, arith}
use Rattle.std.proofs.lemmas.Result.{err_from_is_err_and}
use Rattle.lw_gramlex.specs.declared.token.Symbol.TheVariants as sign
use Rattle.lw_gramread.specs.Steps.{◌>>◌, sees, skip, one, and_then, pure}
use Rattle.lw_gramread.specs.ValueSteps.{bare_value, values, values_inside}
use Rattle.lw_gramread.proofs.Loops.{first_begins, goes, ends, fails, after_yes, after_no, one_behind}
use Rattle.lw_gramread.proofs.reader.values.+values.Goals as goal

pub values-more-init : goal.values-more-init
unfolding values
values-more-init t c = record {
  read = first_begins (sees sign.Bar) (skip >> one (bare_value (values_inside c.args.depth))) (bare_value (values_inside c.args.depth)) c.in_ok-first.first c.push.new.self c.args.left.now c.value.new.left (ap (λ r. and_then r (λ v. pure v.0)) c.in_ok-first.ensures.reads) (cc (c.in_ok-push.ensures.ok));
  shorter = omega (arith, c.in_ok-first.ensures.shorter);
}

pub values-returns-in_err-next-clause-reads : goal.values-returns-in_err-next-clause-reads
values-returns-in_err-next-clause-reads t c =
    let p = err_from_is_err_and c.from_residual-in_err-next.result c.from_residual-in_err-next.ensures.1 in
    let s = after_yes (sees sign.Bar c.more.left) c.takes.result c.more.left c.takes.new.self c.takes.ensures.seen c.takes.ensures.left c.more-test.true in
    rw (p.1, p.2) (λ memory. fails (sees sign.Bar) (skip >> one (bare_value (values_inside c.args.depth))) (c.in_err-next.field-0.0, c.value-in-more.new.left) refl c.more.invariant.read s.0 (one_behind (bare_value (values_inside c.args.depth)) c.more.left c.takes.new.self (Err (c.in_err-next.field-0.0, c.value-in-more.new.left)) s.1 (ap (λ r. and_then r (λ v. pure v.0)) (c.in_err-next.ensures.reads memory))))

pub values-more-preserved : goal.values-more-preserved
values-more-preserved t c =
    let s = after_yes (sees sign.Bar c.more.left) c.takes.result c.more.left c.takes.new.self c.takes.ensures.seen c.takes.ensures.left c.more-test.true in
    record {
      read = rw c.in_ok-push-2.ensures.ok (goes (sees sign.Bar) (skip >> one (bare_value (values_inside c.args.depth))) (c.in_ok-next.next ∷ []) c.value-in-more.new.left refl c.more.invariant.read s.0 (one_behind (bare_value (values_inside c.args.depth)) c.more.left c.takes.new.self (Ok (c.in_ok-next.next, c.value-in-more.new.left)) s.1 (ap (λ r. and_then r (λ v. pure v.0)) c.in_ok-next.ensures.reads)) (omega (arith, c.in_ok-next.ensures.shorter, c.takes.ensures.taken c.more-test.true)));
      shorter = omega (arith, c.more.invariant.shorter, c.in_ok-next.ensures.shorter, c.takes.ensures.taken c.more-test.true);
    }

pub values-returns-clause-reads : goal.values-returns-clause-reads
values-returns-clause-reads t c =
    let s = after_no (sees sign.Bar c.more.left) c.takes.result c.more.left c.takes.new.self c.takes.ensures.seen c.takes.ensures.left c.more-test.false in
    rw s.1 (ends (sees sign.Bar) (skip >> one (bare_value (values_inside c.args.depth))) c.more.invariant.read s.0)
