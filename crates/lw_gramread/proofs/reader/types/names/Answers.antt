use Rattle.std.proofs.Common.{◌∷◌, [], Ok, Err, refl, arith}
use Rattle.std.proofs.lemmas.Result.{err_from_is_err_and}
use Rattle.lw_gramlex.specs.declared.token.Symbol.TheVariants as sign
use Rattle.lw_gramread.specs.declared.reader.left.Spot.TheVariants as spot
use Rattle.lw_gramread.specs.Steps.{◌>>◌, sees, skip, one, free_word}
use Rattle.lw_gramread.specs.TypeSteps.{extended_names}
use Rattle.lw_gramread.proofs.Loops.{first_begins, goes, ends, fails, after_yes, after_no, one_behind}
use Rattle.lw_gramread.proofs.reader.types.names.Goals as goal

pub more-init : goal.more-init
unfolding extended_names
more-init c = record {
  read = first_begins (sees sign.Comma) (skip >> one (free_word spot.Elsewhere)) (free_word spot.Elsewhere) c.in_ok-first.first c.push.new.self c.args.left.now c.name.new.self c.in_ok-first.ensures.reads (cc (c.in_ok-push.ensures.ok));
  shorter = omega (arith, c.in_ok-first.ensures.shorter);
}

pub returns-in_err-next-clause-reads : goal.returns-in_err-next-clause-reads
returns-in_err-next-clause-reads c =
    let p = err_from_is_err_and c.from_residual-in_err-next.result c.from_residual-in_err-next.ensures.1 in
    let s = after_yes (sees sign.Comma c.more.left) c.takes.result c.more.left c.takes.new.self c.takes.ensures.seen c.takes.ensures.left c.more-test.true in
    rw (p.1, p.2) (λ memory. fails (sees sign.Comma) (skip >> one (free_word spot.Elsewhere)) (c.in_err-next.field-0.0, c.name-in-more.new.self) refl c.more.invariant.read s.0 (one_behind (free_word spot.Elsewhere) c.more.left c.takes.new.self (Err (c.in_err-next.field-0.0, c.name-in-more.new.self)) s.1 (c.in_err-next.ensures.reads memory)))

pub more-preserved : goal.more-preserved
more-preserved c =
    let s = after_yes (sees sign.Comma c.more.left) c.takes.result c.more.left c.takes.new.self c.takes.ensures.seen c.takes.ensures.left c.more-test.true in
    record {
      read = rw c.in_ok-push-2.ensures.ok (goes (sees sign.Comma) (skip >> one (free_word spot.Elsewhere)) (c.in_ok-next.next ∷ []) c.name-in-more.new.self refl c.more.invariant.read s.0 (one_behind (free_word spot.Elsewhere) c.more.left c.takes.new.self (Ok (c.in_ok-next.next, c.name-in-more.new.self)) s.1 c.in_ok-next.ensures.reads) (omega (arith, c.in_ok-next.ensures.shorter, c.takes.ensures.taken c.more-test.true)));
      shorter = omega (arith, c.more.invariant.shorter, c.in_ok-next.ensures.shorter, c.takes.ensures.taken c.more-test.true);
    }

pub returns-clause-reads : goal.returns-clause-reads
returns-clause-reads c =
    let s = after_no (sees sign.Comma c.more.left) c.takes.result c.more.left c.takes.new.self c.takes.ensures.seen c.takes.ensures.left c.more-test.false in
    rw s.1 (ends (sees sign.Comma) (skip >> one (free_word spot.Elsewhere)) c.more.invariant.read s.0)
