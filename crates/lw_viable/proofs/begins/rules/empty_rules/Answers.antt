-- Set after set is told.
use Rattle.std.proofs.Common.{ℕ, ◌+◌, ◌↔◌, List, [], Bool, IsTrue, length, refl, sym, subst}
use Rattle.std.proofs.lemmas.Option.{slice_get_read}
use Rattle.lw_first.specs.declared.heads.head.Head.{Head}
use Rattle.lw_first.specs.Sets.{IsAmongHeads}
use Rattle.lw_viable.proofs.BeginsMade.{MadeUpTo, one_more, all_made, flag_tells}
use Rattle.lw_viable.proofs.begins.rules.empty_rules.Goals as goal

abbrev TellsEmptyHead : ℕ → List Head → Bool → Type 0
TellsEmptyHead i heads b = IsTrue b ↔ IsAmongHeads heads []

pub loop-heads-preserved : goal.loop-heads-preserved
loop-heads-preserved c =
    let sets = c.args.sets.now in
    let i = c.loop-heads.heads-index in
    let at = slice_get_read sets (length sets) i c.heads-item.result refl c.loop-heads-test.true c.heads-item.is in
    subst (λ flags. MadeUpTo TellsEmptyHead sets flags (i + 1)) (sym {A = List Bool} c.in_ok-push.ensures.items)
    (one_more TellsEmptyHead sets c.loop-heads.flags.items i c.heads-item.result c.has_empty_head.result c.loop-heads.invariant at c.has_empty_head.ensures)

pub returns : goal.returns
returns c r heads at =
    let sets = c.args.sets.now in
    let flags = c.loop-heads.flags.items in
    flag_tells (IsAmongHeads heads []) flags r (all_made TellsEmptyHead sets flags c.loop-heads.heads-index c.loop-heads.invariant c.loop-heads-test.false r heads at)
