-- The steps by which a whole grammar file is read.
use Rattle.std.specs.Prelude.{ℕ, Bool, true, false, not, ◌==◌, if◌then◌else◌, List, [], length}
use Rattle.lw_grammar.specs.declared.grammar.Grammar.{Grammar}
use Rattle.lw_grammar.specs.declared.grammar.Import.{Import}
use Rattle.lw_gramlex.specs.declared.token.Symbol.TheVariants as sign
use Rattle.lw_gramread.specs.declared.lexeme.Reserved.TheVariants as word
use Rattle.lw_gramread.specs.declared.lexeme.Lexeme.{Lexeme}
use Rattle.lw_gramread.specs.declared.reader.left.Spot.TheVariants as spot
use Rattle.lw_gramread.specs.declared.reader.file.Item.{Item}
use Rattle.lw_gramread.specs.declared.reader.file.Item.TheVariants as item
use Rattle.lw_gramread.specs.Steps.{Reading, ◌>>=◌, ◌>>◌, pure, sees_reserved, skip, takes, takes_reserved, reserved, free_word, text, all_of, one, behind}
use Rattle.lw_gramread.specs.Syntax.{bare_grammar, with_items}
use Rattle.lw_gramread.specs.TypeSteps.{interface, union_type}
use Rattle.lw_gramread.specs.RuleSteps.{rule}
use Rattle.lw_gramread.specs.TerminalSteps.{terminal}

unfoldable pub grammar_name : Reading (List ℕ)
grammar_name = takes_reserved word.Grammar >>= (λ named. if named then free_word spot.Elsewhere >>= (λ n. pure n.0) else pure [])

unfoldable pub import : Reading Import
import = do
  path ← text spot.Elsewhere
  takes sign.Semicolon
  pure (record { path = path.0; file = 0; span = path.1 })

unfoldable pub imports : Reading (List Import)
imports = behind [] (all_of (sees_reserved word.Import) (skip >> one import))

-- where parentheses may nest so deep
module _ (most : ℕ) where
  unfoldable pub shown_item : Reading Item
  shown_item = takes_reserved word.Terminal >>= (λ shown. if shown then terminal most false >>= (λ t. pure (item.Terminal t)) else rule most >>= (λ r. pure (item.Rule r)))

  unfoldable pub hidden_item : Reading Item
  hidden_item = takes_reserved word.Hidden >>= (λ hidden.
      if hidden then reserved word.Terminal spot.Terminal >> (terminal most true >>= (λ t. pure (item.Terminal t))) else shown_item)

  unfoldable pub union_item : Reading Item
  union_item = takes_reserved word.Type >>= (λ is. if is then union_type most >>= (λ u. pure (item.Union u)) else hidden_item)

  unfoldable pub next_item : Reading Item
  next_item = takes_reserved word.Interface >>= (λ is. if is then interface most >>= (λ i. pure (item.Interface i)) else union_item)

abbrev pub is_left : List Lexeme → Bool
is_left ts = not (length ts == 0)

unfoldable pub items : ℕ → Reading (List Item)
items most = behind [] (all_of is_left (one (next_item most)))

-- the grammar of this name and these imports, with the items that there are
unfoldable pub all_items : ℕ → List ℕ → List Import → Reading Grammar
all_items most n is = items most >>= (λ all. pure (with_items (bare_grammar n is) all))

unfoldable pub file : ℕ → Reading Grammar
file most = do
  n ← grammar_name
  is ← imports
  all_items most n is
