-- The readings of the tokens so far, each of which can stand.
use Rattle.std.proofs.Common.{ℕ, List, take}
use Rattle.lw_grammar.specs.declared.grammar.Grammar.{Grammar}
use Rattle.lw_grammar.specs.Kinds.{Kinds}
use Rattle.lw_look.specs.Supplied.{IsSupplied}
use Rattle.lw_program.specs.Says.{Task}
use Rattle.lw_viable.specs.Aims.{Sentence}
use Rattle.lw_viable.specs.Fronts.{HoldReadings}
use Rattle.lw_parse.specs.Outcomes.{CanStand, kinds_seen}
use Rattle.lw_parse.specs.Parsers.{AreOfKinds, IsParserOf}
use Rattle.lw_parse.proofs.search.first_impossible.Given as goal

abbrev pub invariant-loop-number : goal.invariant-loop-number
invariant-loop-number l = (g : Grammar) (kinds : Kinds) (k : ℕ) → IsParserOf g kinds k l.parser → AreOfKinds kinds l.tokens →
    ((tasks : List Task) × HoldReadings g kinds tasks Sentence (kinds_seen (take l.number l.tokens)) l.fronts) × (IsSupplied g kinds → CanStand g kinds (take l.number l.tokens))
