use Rattle.std.proofs.Common.{◌≡◌, ◌∷◌, [], ◌++◌, List, not, true, false, Ok, Err, refl, ap, sym, ◌∙◌, arith}
use Rattle.std.proofs.lemmas.Result.{err_from_is_err_and}
use Rattle.lw_grammar.specs.declared.grammar.Grammar.{Grammar}
use Rattle.lw_gramread.specs.declared.reader.file.Item.{Item}
use Rattle.lw_gramread.specs.Steps.{one, and_then, pure}
use Rattle.lw_gramread.specs.FileSteps.{is_left, next_item, items, all_items}
use Rattle.lw_gramread.specs.Syntax.{bare_grammar, with_item, with_items}
use Rattle.lw_gramread.specs.TypeSteps.{deepest}
use Rattle.lw_gramread.proofs.Loops.{begins, goes, ends, fails, one_here}
use Rattle.lw_gramread.proofs.reader.file.items.Goals as goal

one_item_more : (g : Grammar) (xs : List Item) (i : Item) → with_items g (xs ++ i ∷ []) ≡ with_item (with_items g xs) i
one_item_more g [] i = refl
one_item_more g (x ∷ xs) i = one_item_more (with_item g x) xs i

pub more-init : goal.more-init
unfolding items
more-init c = record {
  read = ([], c.bare_grammar-grammar.ensures, begins is_left (one (next_item deepest)) [] c.args.left.now);
  shorter = omega arith;
}

pub returns-in_err-next-clause-reads : goal.returns-in_err-next-clause-reads
unfolding all_items
returns-in_err-next-clause-reads c =
    let p = err_from_is_err_and c.from_residual.result c.from_residual.ensures.1 in
    let on : is_left c.more.left ≡ true = ap not (sym c.is_empty.ensures ∙ c.more-test.true) in
    rw (p.1, p.2) (λ memory. ap (λ r. and_then r (λ all. pure (with_items (bare_grammar c.args.name c.args.imports) all)))
    (fails is_left (one (next_item deepest)) (c.in_err-next.field-0.0, c.next_item.new.left) refl c.more.invariant.read.2 on (one_here (next_item deepest) c.more.left (Err (c.in_err-next.field-0.0, c.next_item.new.left)) (c.in_err-next.ensures.reads memory))))

pub more-preserved : goal.more-preserved
more-preserved c =
    let on : is_left c.more.left ≡ true = ap not (sym c.is_empty.ensures ∙ c.more-test.true) in
    let g0 = bare_grammar c.args.name c.args.imports in
    let before = c.more.invariant.read in
    record {
      read = (
        before.0 ++ c.in_ok-next.next ∷ [],
        c.in_ok-put.ensures ∙ ap (λ (g : Grammar). with_item g c.in_ok-next.next) before.1 ∙ sym (one_item_more g0 before.0 c.in_ok-next.next),
        goes is_left (one (next_item deepest)) (c.in_ok-next.next ∷ []) c.next_item.new.left refl before.2 on
            (one_here (next_item deepest) c.more.left (Ok (c.in_ok-next.next, c.next_item.new.left)) c.in_ok-next.ensures.reads) (omega (arith, c.in_ok-next.ensures.taken)),
      );
      shorter = omega (arith, c.more.invariant.shorter, c.in_ok-next.ensures.shorter);
    }

pub returns-clause-reads : goal.returns-clause-reads
unfolding all_items
returns-clause-reads c =
    let off : is_left c.more.left ≡ false = ap not (sym c.is_empty.ensures ∙ c.more-test.false) in
    let before = c.more.invariant.read in
    ap (λ r. and_then r (λ all. pure (with_items (bare_grammar c.args.name c.args.imports) all))) (ends is_left (one (next_item deepest)) before.2 off)
    ∙ ap (λ (g : Grammar). Ok (g, c.more.left)) (sym before.1)
