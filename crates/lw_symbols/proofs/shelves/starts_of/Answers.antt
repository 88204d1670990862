use Rattle.std.proofs.Common.{ℕ, subst, arith}
use Rattle.lw_symbols.specs.Shelves.{AreShelfStarts}
use Rattle.lw_symbols.proofs.ShelfLemmas.{no_shelves}
use Rattle.lw_symbols.proofs.shelves.starts_of.Goals as goal

pub loop-place-init : goal.loop-place-init
loop-place-init c = record {
  before = λ k s lt at. absurd (omega (arith, lt));
  starts = no_shelves c.shelf_count-count.result c.args.symbols.now c.new-starts.result.items c.new-starts.ensures.items;
}

pub loop-place-preserved : goal.loop-place-preserved
loop-place-preserved c = record { before = c.in_ok-put_starts.ensures.before; starts = c.in_ok-put_starts.ensures.starts }

pub returns : goal.returns
returns c =
    subst (λ (n : ℕ). AreShelfStarts n c.loop-place.starts.items c.args.symbols.now) c.shelf_count-count.ensures c.loop-place.invariant.starts
