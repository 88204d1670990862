use Rattle.std.proofs.Common.{◌≡◌, ◌∷◌, [], true, false, Ok, Err, refl, sym, ◌∙◌, arith}
use Rattle.std.proofs.lemmas.Result.{err_from_is_err_and}
use Rattle.lw_gramread.specs.Steps.{sees_word, one}
use Rattle.lw_gramread.specs.TypeSteps.{attribute, attributes}
use Rattle.lw_gramread.specs.TypeSteps.{deepest}
use Rattle.lw_gramread.proofs.Loops.{begins, goes, ends, fails, one_here}
use Rattle.lw_gramread.proofs.reader.types.attributes.Goals as goal

pub more-init : goal.more-init
unfolding attributes
more-init c = record {
  read = rw c.new-attributes.ensures (begins (sees_word) (one (attribute deepest)) [] c.args.left.now);
  shorter = omega arith;
}

pub returns-in_err-next-clause-reads : goal.returns-in_err-next-clause-reads
returns-in_err-next-clause-reads c =
    let p = err_from_is_err_and c.from_residual.result c.from_residual.ensures.1 in
    let on : sees_word c.more.left ≡ true = sym c.sees_word.ensures ∙ c.more-test.true in
    rw (p.1, p.2) (λ memory. fails (sees_word) (one (attribute deepest)) (c.in_err-next.field-0.0, c.attribute.new.left) refl c.more.invariant.read on (one_here (attribute deepest) c.more.left (Err (c.in_err-next.field-0.0, c.attribute.new.left)) (c.in_err-next.ensures.reads memory)))

pub more-preserved : goal.more-preserved
more-preserved c =
    let on : sees_word c.more.left ≡ true = sym c.sees_word.ensures ∙ c.more-test.true in
    record {
      read = rw c.in_ok-push.ensures.ok (goes (sees_word) (one (attribute deepest)) (c.in_ok-next.next ∷ []) c.attribute.new.left refl c.more.invariant.read on (one_here (attribute deepest) c.more.left (Ok (c.in_ok-next.next, c.attribute.new.left)) c.in_ok-next.ensures.reads) (omega (arith, c.in_ok-next.ensures.taken)));
      shorter = omega (arith, c.more.invariant.shorter, c.in_ok-next.ensures.shorter);
    }

pub returns-clause-reads : goal.returns-clause-reads
returns-clause-reads c =
    let off : sees_word c.more.left ≡ false = sym c.sees_word.ensures ∙ c.more-test.false in
    ends (sees_word) (one (attribute deepest)) c.more.invariant.read off
