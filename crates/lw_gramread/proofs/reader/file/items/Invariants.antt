use Rattle.std.proofs.Common.{◌≡◌, ◌≤◌, List, length}
use Rattle.lw_gramread.specs.declared.reader.file.Item.{Item}
use Rattle.lw_gramread.specs.Steps.{one}
use Rattle.lw_gramread.specs.FileSteps.{is_left, next_item, items}
use Rattle.lw_gramread.specs.Syntax.{bare_grammar, with_items}
use Rattle.lw_gramread.specs.TypeSteps.{deepest}
use Rattle.lw_gramread.proofs.Loops.{Gathering}
use Rattle.lw_gramread.proofs.reader.file.items.Given as goal

abbrev pub invariant-more : goal.invariant-more
invariant-more l = record {
  read : (xs : List Item) × (l.grammar ≡ with_items (bare_grammar l.fn.name l.fn.imports) xs) × Gathering is_left (one (next_item deepest)) (items deepest l.fn.left) xs l.left;
  shorter : length l.left ≤ length l.fn.left;
}

abbrev pub decreases-more : goal.decreases-more
decreases-more l = length l.left
