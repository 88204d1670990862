use Rattle.std.proofs.Common.{◌≡◌, length}
use Rattle.lw_matching.proofs.NfaLemmas.{MadeFrom}
use Rattle.lw_matching.proofs.nfa.nfas_of.Given as goal

abbrev pub invariant-loop-pattern : goal.invariant-loop-pattern
invariant-loop-pattern l = record {
  count : length l.nfas.items ≡ l.pattern-index;
  made : MadeFrom l.patterns l.nfas.items;
}
