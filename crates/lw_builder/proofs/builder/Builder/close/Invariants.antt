use Rattle.lw_grammar.specs.declared.grammar.Grammar.{Grammar}
use Rattle.lw_reading.specs.Grown.{Grown}
use Rattle.lw_builder.specs.Steps.{IsClosing, IsSameReading, count_open}
use Rattle.lw_builder.proofs.builder.Builder.close.Given as goal

abbrev pub invariant-closing : goal.invariant-closing
invariant-closing l =
    record {
      has : (g : Grammar) × (x : Grown) × IsClosing g l.self x;
      all : (g : Grammar) (x : Grown) → IsClosing g l.initial.self x → IsClosing g l.self x;
      reading : IsSameReading l.initial.self l.self;
    }

abbrev pub decreases-closing : goal.decreases-closing
decreases-closing l = count_open l.self
