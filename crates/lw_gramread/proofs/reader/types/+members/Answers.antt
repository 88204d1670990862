use Rattle.std.proofs.Common.{refl, ap, sym, ◌∙◌, arith}
use Rattle.std.proofs.lemmas.Result.{err_from_is_err_and}
use Rattle.lw_gramlex.specs.declared.token.Symbol.TheVariants as sign
use Rattle.lw_gramread.specs.Steps.{◌>>◌, sees, skip}
use Rattle.lw_gramread.specs.TypeSteps.{single, more_members, members_inside}
use Rattle.lw_gramread.proofs.Loops.{begins, goes, ends, fails, after_yes, after_no}
use Rattle.lw_gramread.proofs.reader.types.+members.Goals as goal

pub more_members-more-init : goal.more_members-more-init
unfolding more_members
more_members-more-init t c = record {
  read = begins (sees sign.Bar) (skip >> single (members_inside c.args.depth)) c.args.before c.args.left.now;
  shorter = omega arith;
}

pub more_members-returns-in_err-next-clause-reads : goal.more_members-returns-in_err-next-clause-reads
more_members-returns-in_err-next-clause-reads t c =
    let p = err_from_is_err_and c.from_residual.result c.from_residual.ensures.1 in
    let s = after_yes (sees sign.Bar c.more.left) c.takes.result c.more.left c.takes.new.self c.takes.ensures.seen c.takes.ensures.left c.more-test.true in
    rw (p.1, p.2) (λ memory. fails (sees sign.Bar) (skip >> single (members_inside c.args.depth)) (c.in_err-next.field-0.0, c.single.new.left) refl c.more.invariant.read s.0 (ap (single (members_inside c.args.depth)) (sym s.1) ∙ (c.in_err-next.ensures.reads memory)))

pub more_members-more-preserved : goal.more_members-more-preserved
more_members-more-preserved t c =
    let s = after_yes (sees sign.Bar c.more.left) c.takes.result c.more.left c.takes.new.self c.takes.ensures.seen c.takes.ensures.left c.more-test.true in
    record {
      read = rw c.in_ok-append.ensures (goes (sees sign.Bar) (skip >> single (members_inside c.args.depth)) c.in_ok-next.next c.single.new.left refl c.more.invariant.read s.0 (ap (single (members_inside c.args.depth)) (sym s.1) ∙ c.in_ok-next.ensures.reads) (omega (arith, c.in_ok-next.ensures.shorter, c.takes.ensures.taken c.more-test.true)));
      shorter = omega (arith, c.more.invariant.shorter, c.in_ok-next.ensures.shorter, c.takes.ensures.taken c.more-test.true);
    }

pub more_members-returns-clause-reads : goal.more_members-returns-clause-reads
more_members-returns-clause-reads t c =
    let s = after_no (sees sign.Bar c.more.left) c.takes.result c.more.left c.takes.new.self c.takes.ensures.seen c.takes.ensures.left c.more-test.false in
    rw s.1 (ends (sees sign.Bar) (skip >> single (members_inside c.args.depth)) c.more.invariant.read s.0)
