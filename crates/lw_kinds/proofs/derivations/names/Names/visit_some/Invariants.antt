use Rattle.std.proofs.Common.{◌≤◌}
use Rattle.lw_kinds.specs.Rounds.{unset, StaysJust}
use Rattle.lw_kinds.proofs.derivations.names.Names.visit_some.Given as goal

abbrev pub invariant-loop-rule : goal.invariant-loop-rule
invariant-loop-rule l = record {
  just : StaysJust l.self.g.now l.tokens l.fn.flags l.flags;
  fewer : unset l.flags ≤ unset l.fn.flags;
}
