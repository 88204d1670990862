use Rattle.lw_kinds.specs.Rounds.{StaysJust, GrewBelow}
use Rattle.lw_kinds.proofs.derivations.names.Names.visit_all.Given as goal

abbrev pub invariant-loop-rule : goal.invariant-loop-rule
invariant-loop-rule l = record {
  just : StaysJust l.self.g.now l.tokens l.fn.flags l.flags;
  grew : GrewBelow l.self.g.now l.tokens l.rule l.fn.flags l.flags l.grew;
}
