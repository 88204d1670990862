use Rattle.std.proofs.Common.{◌∷◌, [], Ok, Err, refl, arith}
use Rattle.std.proofs.lemmas.Result.{err_from_is_err_and}
use Rattle.lw_gramread.specs.declared.lexeme.Reserved.TheVariants as word
use Rattle.lw_gramread.specs.Steps.{◌>>◌, sees_reserved, skip, one}
use Rattle.lw_gramread.specs.FileSteps.{import, imports}
use Rattle.lw_gramread.proofs.Loops.{begins, goes, ends, fails, after_yes, after_no, one_behind}
use Rattle.lw_gramread.proofs.reader.file.imports.Goals as goal

pub more-init : goal.more-init
unfolding imports
more-init c = record {
  read = rw c.new-imports.ensures (begins (sees_reserved word.Import) (skip >> one import) [] c.args.left.now);
  shorter = omega arith;
}

pub returns-in_err-next-clause-reads : goal.returns-in_err-next-clause-reads
returns-in_err-next-clause-reads c =
    let p = err_from_is_err_and c.from_residual.result c.from_residual.ensures.1 in
    let s = after_yes (sees_reserved word.Import c.more.left) c.takes_reserved.result c.more.left c.takes_reserved.new.self c.takes_reserved.ensures.seen c.takes_reserved.ensures.left c.more-test.true in
    rw (p.1, p.2) (λ memory. fails (sees_reserved word.Import) (skip >> one import) (c.in_err-next.field-0.0, c.import.new.left) refl c.more.invariant.read s.0 (one_behind (import) c.more.left c.takes_reserved.new.self (Err (c.in_err-next.field-0.0, c.import.new.left)) s.1 (c.in_err-next.ensures.reads memory)))

pub more-preserved : goal.more-preserved
more-preserved c =
    let s = after_yes (sees_reserved word.Import c.more.left) c.takes_reserved.result c.more.left c.takes_reserved.new.self c.takes_reserved.ensures.seen c.takes_reserved.ensures.left c.more-test.true in
    record {
      read = rw c.in_ok-push.ensures.ok (goes (sees_reserved word.Import) (skip >> one import) (c.in_ok-next.next ∷ []) c.import.new.left refl c.more.invariant.read s.0 (one_behind (import) c.more.left c.takes_reserved.new.self (Ok (c.in_ok-next.next, c.import.new.left)) s.1 c.in_ok-next.ensures.reads) (omega (arith, c.in_ok-next.ensures.shorter, c.takes_reserved.ensures.taken c.more-test.true)));
      shorter = omega (arith, c.more.invariant.shorter, c.in_ok-next.ensures.shorter, c.takes_reserved.ensures.taken c.more-test.true);
    }

pub returns-clause-reads : goal.returns-clause-reads
returns-clause-reads c =
    let s = after_no (sees_reserved word.Import c.more.left) c.takes_reserved.result c.more.left c.takes_reserved.new.self c.takes_reserved.ensures.seen c.takes_reserved.ensures.left c.more-test.false in
    rw s.1 (ends (sees_reserved word.Import) (skip >> one import) c.more.invariant.read s.0)
