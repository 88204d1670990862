-- Where nothing is wrong with a grammar, there is no list of its faults.
use Rattle.std.proofs.Common.{List, [], ◌∷◌, refl, arith}
use Rattle.lw_grammar.specs.declared.fault.GrammarFault.{GrammarFault}
use Rattle.lw_grammar.specs.declared.grammar.Grammar.{Grammar}
use Rattle.lw_gramcheck.specs.Judging.{IsFaultless, AreFirstFaults}
use Rattle.lw_gramcheck.specs.Judging as judging

pub no_first_faults : (g : Grammar) → IsFaultless g → (faults : List GrammarFault) → ¬ AreFirstFaults g faults
no_first_faults g none [] (judging.of_types are some) = some refl
no_first_faults g none [] (judging.of_checks types are some) = some refl
no_first_faults g none (f ∷ faults) (judging.of_types are some) = none.types f ((are.all f).0 (0, omega arith, refl))
no_first_faults g none (f ∷ faults) (judging.of_checks types are some) = none.checks f ((are.all f).0 (0, omega arith, refl))
