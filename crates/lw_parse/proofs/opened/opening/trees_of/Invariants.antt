use Rattle.std.proofs.Common.{ℕ, take}
use Rattle.lw_grammar.specs.declared.grammar.Grammar.{Grammar}
use Rattle.lw_grammar.specs.Kinds.{Kinds}
use Rattle.lw_parse.specs.Parsers.{ParsesFaultless}
use Rattle.lw_tokens.specs.Cut.{kinds, visible}
use Rattle.lw_parse.specs.Readings.{MeanReadings}
use Rattle.lw_parse.proofs.TreesSoFar.{AreTreesOf}
use Rattle.lw_parse.proofs.opened.opening.trees_of.Given as goal

-- those of the readings so far
abbrev pub invariant-readings : goal.invariant-readings
invariant-readings l =
    (g : Grammar) (of : Kinds) (k : ℕ) → ParsesFaultless g of k l.fn.parser → MeanReadings g of l.fn.parser.entry (kinds (visible l.fn.tokens)) l.readings →
    AreTreesOf g of l.fn.parser.entry l.fn.text l.fn.tokens (take l.marks-index l.readings) l.trees.items
