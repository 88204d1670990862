-- When nothing is wrong with a grammar, and which faults are told of it: all of the first phase that has any.
use Rattle.std.specs.Prelude.{◌≢◌, List, []}
use Rattle.lw_grammar.specs.declared.fault.GrammarFault.{GrammarFault}
use Rattle.lw_grammar.specs.declared.grammar.Grammar.{Grammar}
use Rattle.lw_faults.specs.Faults.{IsCheckFault, AreTypeFaults, AreCheckFaults}
use Rattle.lw_types.specs.Inferred.{HasNoTypeFault}
use Rattle.lw_gramcheck.specs.declared.fault.JudgeFault.{JudgeFault}
use Rattle.lw_gramcheck.specs.declared.fault.JudgeFault.TheVariants.{Faults, NoMemory}

pub record IsFaultless (g : Grammar) : Type 0 where
  pub types : HasNoTypeFault g
  pub checks : (f : GrammarFault) → ¬ IsCheckFault g f

-- these are all faults of the first phase, or that has none, and these are all of the second
pub data AreFirstFaults (g : Grammar) (faults : List GrammarFault) : Type 0 where
  of_types : AreTypeFaults g faults → faults ≢ [] → AreFirstFaults g faults
  of_checks : HasNoTypeFault g → AreCheckFaults g faults → faults ≢ [] → AreFirstFaults g faults

-- why a grammar cannot be used
abbrev pub CausesNoUse : Grammar → JudgeFault → Type 0
CausesNoUse g (Faults faults) = AreFirstFaults g faults
CausesNoUse g NoMemory = Unit {0}
