use Rattle.std.proofs.Common.{◌≡◌, List, length, ◌++◌, ap, sym, ◌∙◌, subst, ◌<◌, ◌+◌, ℕ, get_or, arith}
use Rattle.lw_base.specs.declared.numbers.NodeId.{NodeId}
use Rattle.lw_symbols.specs.Families.{named_before, named_children}
use Rattle.lw_symbols.proofs.Table.{before_more, few, pushed}
use Rattle.lw_symbols.proofs.named.starts_and_ids.Goals as goal

pub overflow_cast-len : goal.overflow_cast-len
overflow_cast-len c =
    omega (arith, few c.args.tree.now c.loop-number.number, ap length c.loop-number.invariant.ids, c.len.ensures, c.len-number-end.ensures, c.len-number-end.type_inv)

pub loop-number-preserved : goal.loop-number-preserved
loop-number-preserved c =
    let size : c.len.result ≡ length (named_before c.args.tree.now c.loop-number.number) = omega (arith, c.len.ensures, ap length c.loop-number.invariant.ids) in
    record {
      ids = c.in_ok-put_named.ensures ∙ ap (λ (cs : List NodeId). cs ++ named_children c.args.tree.now c.loop-number.number) c.loop-number.invariant.ids
          ∙ sym (before_more c.args.tree.now c.loop-number.number);
      long = omega (arith, c.in_ok-push.ensures.len, c.loop-number.invariant.long);
      starts = subst (λ (xs : List ℕ). (n : ℕ) → n < c.loop-number.number + 1 → get_or xs n 0 ≡ length (named_before c.args.tree.now n)) (sym c.in_ok-push.ensures.items)
          (pushed c.args.tree.now c.loop-number.starts.items c.loop-number.number c.len.result c.loop-number.invariant.long c.loop-number.invariant.starts size);
    }

pub overflow_cast-len-2 : goal.overflow_cast-len-2
overflow_cast-len-2 c =
    omega (arith, few c.args.tree.now c.loop-number.number, ap length c.loop-number.invariant.ids, c.len-2.ensures, c.len-number-end.ensures, c.len-number-end.type_inv)
