use Rattle.std.proofs.Common.{◌≡◌, length}
use Rattle.lw_kinds.specs.Passing.{IsJust}
use Rattle.lw_kinds.specs.Rounds.{unset}
use Rattle.lw_kinds.proofs.derivations.names.Names.passing.Given as goal

abbrev pub invariant-rounds : goal.invariant-rounds
invariant-rounds l = record {
  size : length l.flags.items ≡ length l.self.g.now.rules;
  just : IsJust l.self.g.now l.tokens l.flags.items;
}

abbrev pub decreases-rounds : goal.decreases-rounds
decreases-rounds l = unset l.flags.items
