use Rattle.std.proofs.Common.{List, subst, sym}
use Rattle.lw_base.specs.declared.token.Token.{Token}
use Rattle.lw_tree.specs.Parts.{Tile, none}
use Rattle.lw_grammar_tests.proofs.preorder.made_text.Goals as goal

pub in_preorder-requires-clause-tokens : goal.in_preorder-requires-clause-tokens
in_preorder-requires-clause-tokens c = let P : List Token → Type 0 = λ ts. Tile 0 ts in subst P (sym c.new.ensures.items) none
