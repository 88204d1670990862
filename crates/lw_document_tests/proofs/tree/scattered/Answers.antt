use Rattle.std.proofs.Common.{List, subst, sym}
use Rattle.lw_base.specs.declared.token.Token.{Token}
use Rattle.lw_tree.specs.Parts.{Tile, none}
use Rattle.lw_document_tests.proofs.tree.scattered.Goals as goal

pub new-requires-clause-tokens : goal.new-requires-clause-tokens
new-requires-clause-tokens c =
    let P : List Token → Type 0 = λ l. Tile 0 l in
    subst P (sym c.new-tokens.ensures.items) none
