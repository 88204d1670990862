-- What is told of a grammar with faults: all of the first phase that has any, each by the path of its file and the position there.
use Rattle.std.specs.Prelude.{ℕ, List}
use Rattle.lw_grammar.specs.declared.fault.GrammarFault.{GrammarFault}
use Rattle.lw_grammar.specs.declared.grammar.Grammar.{Grammar}
use Rattle.lw_gramcheck.specs.Judging.{AreFirstFaults}
use Rattle.lw_lang.specs.declared.told.told.ToldFault.{ToldFault}
use Rattle.lw_lang.specs.Telling.{AreToldAs}
use Rattle.lw_lang.specs.declared.fault.CompileFault.{CompileFault}
use Rattle.lw_lang.specs.declared.fault.CompileFault.TheVariants.{Faults, NoMemory}

pub record AreAllTold (g : Grammar) (texts : List (List ℕ)) (told : List ToldFault) : Type 0 where
  pub faults : List GrammarFault
  pub all : AreFirstFaults g faults
  pub as_told : AreToldAs g texts faults told

-- the fault of a grammar is one of these, or want of memory
abbrev pub IsJudged : Grammar → List (List ℕ) → CompileFault → Type 0
IsJudged g texts (Faults told) = AreAllTold g texts told
IsJudged g texts NoMemory = Unit {0}
IsJudged g texts _ = ⊥
