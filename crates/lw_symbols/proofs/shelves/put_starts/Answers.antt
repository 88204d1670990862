use Rattle.std.proofs.Common.{◌≤◌, ◌<◌, List, ℕ, length, refl, sym, subst, arith}
use Rattle.std.proofs.lemmas.Option.{slice_get-get_or}
use Rattle.lw_symbols.specs.Shelves.{AreShelfStarts, IsShelfStart}
use Rattle.lw_symbols.proofs.ShelfLemmas.{begins_at, one_shelf, up_to_place}
use Rattle.lw_symbols.proofs.shelves.put_starts.Goals as goal

pub shelves-preserved : goal.shelves-preserved
shelves-preserved c =
    let symbols = c.args.symbols.now in
    let starts = c.shelves.starts.items in
    let le : length starts ≤ c.shelf_of-own.result = omega (arith, c.len.ensures, c.shelves-test.true) in
    let begins : IsShelfStart c.args.count (length starts) symbols c.args.place =
    begins_at c.args.count symbols c.args.place _ (slice_get-get_or symbols c.args.place _ c.requires.place) c.shelf_of-own.result c.shelf_of-own.ensures (length starts)
    c.shelves.invariant.before c.requires.sorted le in
    record {
      before = λ k s lt at. omega (arith, c.in_ok-push.ensures.len, c.shelves.invariant.before k s lt at);
      starts = subst (λ (xs : List ℕ). AreShelfStarts c.args.count xs symbols) (sym c.in_ok-push.ensures.items)
          (one_shelf c.args.count symbols starts c.shelves.invariant.starts c.args.place (length starts) refl begins);
    }

pub returns-clause-before : goal.returns-clause-before
returns-clause-before c =
    let symbols = c.args.symbols.now in
    let lt : c.shelf_of-own.result < length c.shelves.starts.items = omega (arith, c.len.ensures, c.shelves-test.false) in
    up_to_place c.args.count symbols c.args.place _ (slice_get-get_or symbols c.args.place _ c.requires.place) c.shelf_of-own.result c.shelf_of-own.ensures
    (length c.shelves.starts.items) c.shelves.invariant.before lt
