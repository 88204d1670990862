use Rattle.std.proofs.Common.{sym, subst}
use Rattle.lw_tree.specs.Parts.{Tile, none}
use Rattle.lw_document_tests.proofs.link.tree.Goals as goal

pub new-requires-2-clause-tokens : goal.new-requires-2-clause-tokens
new-requires-2-clause-tokens c = subst (Tile 0) (sym c.new.ensures.items) none
