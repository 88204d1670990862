use Rattle.std.proofs.Common.{◌≡◌, ◌∷◌, [], true, false, Ok, Err, refl, sym, ◌∙◌, arith}
use Rattle.std.proofs.lemmas.Result.{err_from_is_err_and}
use Rattle.lw_gramlex.specs.declared.token.Symbol.TheVariants as sign
use Rattle.lw_gramread.specs.Steps.{◌>>◌, sees, skip, one}
use Rattle.lw_gramread.specs.ValueSteps.{values_inside}
use Rattle.lw_gramread.specs.ElementSteps.{begins_element, element_in, elements, row, rows, choice_inside}
use Rattle.lw_gramread.proofs.Loops.{first_begins, goes, ends, fails, after_yes, after_no, one_here, one_behind}
use Rattle.lw_gramread.proofs.reader.elements.+choices.Goals as goal

pub rows-more-init : goal.rows-more-init
unfolding rows
rows-more-init t c = record {
  read = first_begins (sees sign.Bar) (skip >> one (row (values_inside c.args.depth) (choice_inside c.args.depth))) (row (values_inside c.args.depth) (choice_inside c.args.depth)) c.in_ok-first.first c.push.new.self c.args.left.now c.row.new.left c.in_ok-first.ensures.reads (cc (c.in_ok-push.ensures.ok));
  shorter = omega (arith, c.in_ok-first.ensures.shorter);
}

pub rows-returns-in_err-next-clause-reads : goal.rows-returns-in_err-next-clause-reads
rows-returns-in_err-next-clause-reads t c =
    let p = err_from_is_err_and c.from_residual-in_err-next.result c.from_residual-in_err-next.ensures.1 in
    let s = after_yes (sees sign.Bar c.more.left) c.takes.result c.more.left c.takes.new.self c.takes.ensures.seen c.takes.ensures.left c.more-test.true in
    rw (p.1, p.2) (λ memory. fails (sees sign.Bar) (skip >> one (row (values_inside c.args.depth) (choice_inside c.args.depth))) (c.in_err-next.field-0.0, c.row-in-more.new.left) refl c.more.invariant.read s.0 (one_behind (row (values_inside c.args.depth) (choice_inside c.args.depth)) c.more.left c.takes.new.self (Err (c.in_err-next.field-0.0, c.row-in-more.new.left)) s.1 (c.in_err-next.ensures.reads memory)))

pub rows-more-preserved : goal.rows-more-preserved
rows-more-preserved t c =
    let s = after_yes (sees sign.Bar c.more.left) c.takes.result c.more.left c.takes.new.self c.takes.ensures.seen c.takes.ensures.left c.more-test.true in
    record {
      read = rw c.in_ok-push-2.ensures.ok (goes (sees sign.Bar) (skip >> one (row (values_inside c.args.depth) (choice_inside c.args.depth))) (c.in_ok-next.next ∷ []) c.row-in-more.new.left refl c.more.invariant.read s.0 (one_behind (row (values_inside c.args.depth) (choice_inside c.args.depth)) c.more.left c.takes.new.self (Ok (c.in_ok-next.next, c.row-in-more.new.left)) s.1 c.in_ok-next.ensures.reads) (omega (arith, c.in_ok-next.ensures.shorter, c.takes.ensures.taken c.more-test.true)));
      shorter = omega (arith, c.more.invariant.shorter, c.in_ok-next.ensures.shorter, c.takes.ensures.taken c.more-test.true);
    }

pub rows-returns-clause-reads : goal.rows-returns-clause-reads
rows-returns-clause-reads t c =
    let s = after_no (sees sign.Bar c.more.left) c.takes.result c.more.left c.takes.new.self c.takes.ensures.seen c.takes.ensures.left c.more-test.false in
    rw s.1 (ends (sees sign.Bar) (skip >> one (row (values_inside c.args.depth) (choice_inside c.args.depth))) c.more.invariant.read s.0)

pub elements-more-init : goal.elements-more-init
unfolding elements
elements-more-init t c = record {
  read = first_begins (begins_element) (one (element_in (values_inside c.args.depth) (choice_inside c.args.depth))) (element_in (values_inside c.args.depth) (choice_inside c.args.depth)) c.in_ok-first.first c.push.new.self c.args.left.now c.element.new.left c.in_ok-first.ensures.reads (cc (c.in_ok-push.ensures.ok));
  shorter = omega (arith, c.in_ok-first.ensures.shorter);
}

pub elements-returns-in_err-next-clause-reads : goal.elements-returns-in_err-next-clause-reads
elements-returns-in_err-next-clause-reads t c =
    let p = err_from_is_err_and c.from_residual-in_err-next.result c.from_residual-in_err-next.ensures.1 in
    let on : begins_element c.more.left ≡ true = sym c.begins_element.ensures ∙ c.more-test.true in
    rw (p.1, p.2) (λ memory. fails (begins_element) (one (element_in (values_inside c.args.depth) (choice_inside c.args.depth))) (c.in_err-next.field-0.0, c.element-in-more.new.left) refl c.more.invariant.read on (one_here (element_in (values_inside c.args.depth) (choice_inside c.args.depth)) c.more.left (Err (c.in_err-next.field-0.0, c.element-in-more.new.left)) (c.in_err-next.ensures.reads memory)))

pub elements-more-preserved : goal.elements-more-preserved
elements-more-preserved t c =
    let on : begins_element c.more.left ≡ true = sym c.begins_element.ensures ∙ c.more-test.true in
    record {
      read = rw c.in_ok-push-2.ensures.ok (goes (begins_element) (one (element_in (values_inside c.args.depth) (choice_inside c.args.depth))) (c.in_ok-next.next ∷ []) c.element-in-more.new.left refl c.more.invariant.read on (one_here (element_in (values_inside c.args.depth) (choice_inside c.args.depth)) c.more.left (Ok (c.in_ok-next.next, c.element-in-more.new.left)) c.in_ok-next.ensures.reads) (omega (arith, c.in_ok-next.ensures.taken)));
      shorter = omega (arith, c.more.invariant.shorter, c.in_ok-next.ensures.shorter);
    }

pub elements-returns-clause-reads : goal.elements-returns-clause-reads
elements-returns-clause-reads t c =
    let off : begins_element c.more.left ≡ false = sym c.begins_element.ensures ∙ c.more-test.false in
    ends (begins_element) (one (element_in (values_inside c.args.depth) (choice_inside c.args.depth))) c.more.invariant.read off
