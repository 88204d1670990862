-- The faults of what rules read and do, which are looked for where nothing calls itself.
use Rattle.lw_grammar.specs.declared.fault.GrammarFault.{GrammarFault}
use Rattle.lw_grammar.specs.declared.grammar.Grammar.{Grammar}
use Rattle.lw_faults.specs.Derivations.{LeftRecursion, ReadsNothing, RepeatsNothing, NeverEnds}
use Rattle.lw_faults.specs.Misplaced.{MisplacedAction, MisplacedCall}
use Rattle.lw_faults.specs.Finding.{IsFaultOf}

pub data IsReadingFault (g : Grammar) (f : GrammarFault) : Type 0 where
  left_recursion : IsFaultOf 7 (LeftRecursion g) f → IsReadingFault g f
  reads_nothing : IsFaultOf 8 (ReadsNothing g) f → IsReadingFault g f
  repeats_nothing : IsFaultOf 9 (RepeatsNothing g) f → IsReadingFault g f
  never_ends : IsFaultOf 10 (NeverEnds g) f → IsReadingFault g f
  misplaced_action : IsFaultOf 11 (MisplacedAction g) f → IsReadingFault g f
  misplaced_call : IsFaultOf 12 (MisplacedCall g) f → IsReadingFault g f
