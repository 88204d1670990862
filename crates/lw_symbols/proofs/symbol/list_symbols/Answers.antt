use Rattle.std.proofs.Common.{ℕ, ◌≡◌, ◌+◌, List, length, ap, sym, subst, ◌∙◌, arith}
use Rattle.lw_symbols.specs.declared.symbol.Symbol.{Symbol}
use Rattle.lw_symbols.specs.Symbols.{AreAmongFirst}
use Rattle.lw_symbols.proofs.Listing.{one_more, none_more}
use Rattle.lw_symbols.proofs.symbol.list_symbols.Goals as goal
use Rattle.lw_symbols.proofs.symbol.list_symbols.Goals.{in-Some+in_ok-push, in_default}

pub loop-number-preserved : goal.loop-number-preserved
loop-number-preserved c =
    let P : List Symbol → Type 0 = λ xs. AreAmongFirst c.args.tree.now (c.loop-number.number + 1) xs in
    elim c.match-symbol_of.branch [
      | in-Some+in_ok-push w ↦
          subst P (sym (ap (λ (v : _). v.items) w.list-is ∙ w.in_ok-push.ensures.items))
          (one_more c.args.tree.now c.loop-number.number c.loop-number.list.items w.in-Some.symbol c.loop-number.invariant w.in-Some.ensures.0 w.in-Some.ensures.1)
      | in_default w ↦
          subst P (sym (ap (λ (v : _). v.items) w.list-is))
          (none_more c.args.tree.now c.loop-number.number c.loop-number.list.items c.loop-number.invariant w.in_default.ensures)
    ]

pub returns : goal.returns
returns c =
    let all : c.loop-number.number ≡ length c.args.tree.now.nodes = omega (arith, c.len-number-end.ensures) in
    subst (λ (k : ℕ). AreAmongFirst c.args.tree.now k c.loop-number.list.items) all c.loop-number.invariant
