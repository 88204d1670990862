use Rattle.std.proofs.Common.{◌≡◌, length}
use Rattle.lw_flow.specs.Fixed.{IsSound}
use Rattle.lw_flow.specs.Rows.{InTable, room}
use Rattle.lw_flow.proofs.fragments.fragment_effects.Given as goal

abbrev pub invariant-rounds : goal.invariant-rounds
invariant-rounds l = record {
  sized : length l.table.items ≡ length l.source.grammar.now.rules;
  sound : IsSound l.source.grammar.now (InTable l.table.items);
}

abbrev pub decreases-rounds : goal.decreases-rounds
decreases-rounds l = room l.table.items
