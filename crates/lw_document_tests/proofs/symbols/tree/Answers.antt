use Rattle.std.proofs.Common.{sym, subst}
use Rattle.lw_tree.specs.Parts.{Tile, none}
use Rattle.lw_document_tests.proofs.symbols.tree.Goals as goal

pub new-requires-3-clause-tokens : goal.new-requires-3-clause-tokens
new-requires-3-clause-tokens c = subst (Tile 0) (sym c.new-2.ensures.items) none
