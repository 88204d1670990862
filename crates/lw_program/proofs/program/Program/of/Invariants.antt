use Rattle.lw_grammar.specs.Kinds.{Kinds, AreKinds}
use Rattle.lw_program.specs.Filled.{listing}
use Rattle.lw_program.proofs.Building.{IsBuilt}
use Rattle.lw_program.proofs.program.Program.of.Given as goal

abbrev pub invariant-loop-number : goal.invariant-loop-number
invariant-loop-number l = (kinds : Kinds) → AreKinds l.lexicon.g.now kinds → IsBuilt l.lexicon.g.now kinds l.number l.starts.items (listing l.draft)
