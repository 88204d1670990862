use Rattle.std.proofs.Common.{◌≡◌, take}
use Rattle.lw_index.specs.Turns.{swept, TurnsAll}
use Rattle.lw_index.proofs.names.sweep_all.Given as goal

abbrev pub invariant-loop-export : goal.invariant-loop-export
invariant-loop-export l = (l.place.1 ≡ l.fn.place.1) × TurnsAll (λ _. swept) l.fn.place.1 (take l.export-index l.exports) l.fn.names l.names
