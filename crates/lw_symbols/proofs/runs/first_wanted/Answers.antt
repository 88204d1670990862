use Rattle.std.proofs.Common.{◌+◌, sym, subst, ◌∙◌, arith}
use Rattle.lw_symbols.specs.Least.{IsLeastSymbol}
use Rattle.lw_symbols.proofs.Wanted.{IsPassed, nothing_passed, passed_yes, passed_no, all_passed}
use Rattle.lw_symbols.proofs.runs.first_wanted.Goals as goal
use Rattle.lw_symbols.proofs.runs.first_wanted.Goals.{then-holds, else-holds}

pub loop-place-init : goal.loop-place-init
loop-place-init c = record {
  low = omega arith;
  best = nothing_passed c.args.container c.args.hash c.args.tree.now c.args.name.now c.args.fits.now c.args.symbols.now;
}

pub loop-place-preserved : goal.loop-place-preserved
loop-place-preserved c = record {
  low = omega arith;
  best = elim c.if-holds.branch [
    | then-holds w ↦ subst
        (IsLeastSymbol (IsPassed c.args.container c.args.hash c.args.tree.now c.args.name.now c.args.fits.now c.args.symbols.now (c.in-Some.run'.type_id.0 + 1)) c.args.symbols.now)
        (sym (w.best-is ∙ w.lesser-best.ensures))
        (passed_yes c.args.container c.args.hash c.args.tree.now c.args.name.now c.args.fits.now c.args.symbols.now c.loop-place.low c.in-Some.place c.in-Some.run'
        c.in-Some.ensures c.loop-place.best w.first_called.result (sym c.holds.ensures ∙ w.if-holds.true) c.loop-place.invariant.best w.first_called.ensures)
    | else-holds w ↦ subst
        (IsLeastSymbol (IsPassed c.args.container c.args.hash c.args.tree.now c.args.name.now c.args.fits.now c.args.symbols.now (c.in-Some.run'.type_id.0 + 1)) c.args.symbols.now)
        (sym w.best-is)
        (passed_no c.args.container c.args.hash c.args.tree.now c.args.name.now c.args.fits.now c.args.symbols.now c.loop-place.low c.in-Some.place c.in-Some.run'
        c.in-Some.ensures c.loop-place.best (sym c.holds.ensures ∙ w.if-holds.false) c.loop-place.invariant.best)
  ];
}

pub returns : goal.returns
returns c =
    all_passed c.args.container c.args.hash c.args.tree.now c.args.name.now c.args.fits.now c.args.symbols.now c.loop-place.low c.loop-place.best c.in_default.ensures
    c.loop-place.invariant.best
