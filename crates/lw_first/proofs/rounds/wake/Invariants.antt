use Rattle.std.proofs.Common.{◌≡◌, ℕ, Contains, false, take}
use Rattle.std.specs.Prelude.{slice_index_or}
use Rattle.lw_first.proofs.rounds.wake.Given as goal

abbrev pub invariant-loop-rule : goal.invariant-loop-rule
invariant-loop-rule l = (r : ℕ) → slice_index_or l.waiting r false ≡ false → (slice_index_or l.fn.waiting r false ≡ false) × ¬ Contains (take l.rule-index l.rules) r
