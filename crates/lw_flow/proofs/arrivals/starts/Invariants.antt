use Rattle.std.proofs.Common.{◌≡◌, ◌↔◌, ◌<◌, ℕ, length}
use Rattle.lw_flow.specs.declared.effect.Mark.{Mark}
use Rattle.lw_flow.specs.Arrivals.{StartsRule}
use Rattle.lw_flow.specs.Rows.{InTable}
use Rattle.lw_flow.proofs.arrivals.starts.Given as goal

abbrev pub invariant-loop-rule : goal.invariant-loop-rule
invariant-loop-rule l = record {
  sized : length l.marks.items ≡ l.rule-index;
  exact : (w : ℕ) (m : Mark) → InTable l.marks.items w m ↔ ((w < l.rule-index) × StartsRule l.source.grammar.now w m);
}
