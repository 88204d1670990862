use Rattle.std.proofs.Common.{drop}
use Rattle.lw_terminals.specs.Readiness.{AreReady}
use Rattle.lw_terminals.specs.Writing.{IsFoundAt}
use Rattle.lw_terminals.proofs.patterns.scribe.Scribe.+readiness.Given as goal

abbrev pub invariant-are_ready-loop-part : goal.invariant-are_ready-loop-part
invariant-are_ready-loop-part l =
    AreReady l.self.g.now (IsFoundAt l.self.written.now) (drop l.part-index l.parts) → AreReady l.self.g.now (IsFoundAt l.self.written.now) l.parts
