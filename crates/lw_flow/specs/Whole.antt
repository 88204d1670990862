-- The rows of all rules.
use Rattle.std.specs.Prelude.{ℕ, ◌≡◌, List, Some, Vec, length, slice_get}
use Rattle.std.specs.HashSet.{HashSet}
use Rattle.std.specs.declared.alloc.Global.{Global}
use Rattle.lw_grammar.specs.declared.grammar.Grammar.{Grammar}
use Rattle.lw_grammar.specs.declared.rule.Rule.{Rule}
use Rattle.lw_flow.specs.declared.before.Before.{Before}
use Rattle.lw_flow.specs.declared.effect.Effect.{Effect}
use Rattle.lw_flow.specs.declared.effect.Mark.{Mark}
use Rattle.lw_flow.specs.Entries.{IsRowOf}

abbrev pub items_of : Vec Before Global → List Before
items_of row = row.items

-- the rows of the first rules, to which these marks come
pub record AreRowsOf {S : Type 0} (g : Grammar) (table : ℕ → Effect → Type 0) (marks : List (HashSet Mark S)) (count : ℕ) (rows : List (List Before)) : Type 0 where
  pub all : length rows ≡ count
  pub each : (w : ℕ) (rule : Rule) (start : HashSet Mark S) (row : List Before) → slice_get g.rules w ≡ Some rule → slice_get marks w ≡ Some start →
      slice_get rows w ≡ Some row → IsRowOf g table rule start.keys row
