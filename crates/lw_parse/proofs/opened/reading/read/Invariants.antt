use Rattle.std.proofs.Common.{ℕ, ◌++◌, List, take}
use Rattle.lw_grammar.specs.declared.grammar.Grammar.{Grammar}
use Rattle.lw_grammar.specs.Kinds.{Kinds}
use Rattle.lw_parse.specs.Parsers.{AreOfKinds}
use Rattle.lw_program.specs.Says.{Task}
use Rattle.lw_tokens.specs.Cut.{kinds, visible}
use Rattle.lw_viable.specs.Aims.{Aim}
use Rattle.lw_viable.specs.Fronts.{HoldReadings}
use Rattle.lw_parse.proofs.opened.reading.read.Given as goal

abbrev pub invariant-tokens : goal.invariant-tokens
invariant-tokens l =
    (g : Grammar) (of : Kinds) (tasks : List Task) (aim : Aim) (ks : List ℕ) → HoldReadings g of tasks aim ks l.fn.fronts → AreOfKinds of l.fn.tokens →
    HoldReadings g of tasks aim (ks ++ kinds (visible (take l.token-index l.tokens))) l.fronts
