use Rattle.std.proofs.Common.{◌+◌, ◌-◌, ◌/◌, ◌<◌, ℕ, length, sym, ◌∙◌, arith}
use Rattle.std.proofs.lemmas.Option.{slice_get-get_or}
use Rattle.lw_symbols.proofs.Order.{before_number, behind_number}
use Rattle.lw_symbols.proofs.RunLemmas.{all_before, none_before}
use Rattle.lw_symbols.proofs.runs.first_from.Goals as goal

pub halving-init : goal.halving-init
halving-init c = record {
  order = c.places_of-first.ensures.order;
  bound = c.places_of-first.ensures.end;
  before = λ k s lt at. before_number c.args.container c.args.hash c.args.low s (c.places_of-first.ensures.before k s lt at);
  behind = λ k s le at. behind_number c.args.container c.args.hash c.args.low s (c.places_of-first.ensures.behind k s le at);
}

pub halving-preserved-then-is_before : goal.halving-preserved-then-is_before
halving-preserved-then-is_before c =
    let middle : ℕ = c.halving.first + (c.halving.end - c.halving.first) / 2 in
    let inside : middle < length c.args.symbols.now = omega (arith, c.halving-test.true, c.halving.invariant.bound) in
    record {
      order = omega (arith, c.halving-test.true);
      bound = c.halving.invariant.bound;
      before = all_before c.args.container c.args.hash c.args.low c.args.symbols.now c.requires.sorted middle _ (slice_get-get_or c.args.symbols.now middle _ inside)
          (sym c.is_before.ensures ∙ c.if-is_before.true);
      behind = c.halving.invariant.behind;
    }

pub halving-preserved : goal.halving-preserved
halving-preserved c =
    let middle : ℕ = c.halving.first + (c.halving.end - c.halving.first) / 2 in
    let inside : middle < length c.args.symbols.now = omega (arith, c.halving-test.true, c.halving.invariant.bound) in
    record {
      order = omega arith;
      bound = omega (arith, inside);
      before = c.halving.invariant.before;
      behind = none_before c.args.container c.args.hash c.args.low c.args.symbols.now c.requires.sorted middle _ (slice_get-get_or c.args.symbols.now middle _ inside)
          (sym c.is_before.ensures ∙ c.if-is_before.false);
    }

pub returns-clause-before : goal.returns-clause-before
returns-clause-before c k d lt =
    c.halving.invariant.before k _ lt (slice_get-get_or c.args.symbols.now k d (omega (arith, lt, c.halving.invariant.order, c.halving.invariant.bound)))

pub returns-clause-behind : goal.returns-clause-behind
returns-clause-behind c k d le lt =
    c.halving.invariant.behind k _ (omega (arith, le, c.halving-test.false)) (slice_get-get_or c.args.symbols.now k d lt)
