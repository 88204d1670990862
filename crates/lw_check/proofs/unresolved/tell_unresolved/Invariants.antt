use Rattle.lw_faults.specs.Finding.{Finds, AtSomeBelow}
use Rattle.lw_grammar.specs.declared.grammar.Grammar.{Grammar}
use Rattle.lw_types.specs.Inferred.{AreTypesOf}
use Rattle.lw_check.specs.Sorting.{diagnostics_of}
use Rattle.lw_check.specs.Telling.{TellsAnswerAt}
use Rattle.lw_check.proofs.unresolved.tell_unresolved.Given as goal

abbrev pub invariant-loop-place : goal.invariant-loop-place
invariant-loop-place l = (g : Grammar) → AreTypesOf g l.fn.types →
    Finds (AtSomeBelow (TellsAnswerAt g l.fn.answers) l.place l.fn.tree.refs) (diagnostics_of l.fn.diagnostics.items) (diagnostics_of l.diagnostics.items)
