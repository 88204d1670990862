use Rattle.std.proofs.Common.{ℕ, List, Contains, take}
use Rattle.lw_base.specs.declared.token.Span.{Span}
use Rattle.lw_types.specs.Rounds.{IsNoInterface}
use Rattle.lw_types.proofs.naming.names.KnownNames.extends_other.Given as goal

abbrev pub invariant-loop-name : goal.invariant-loop-name
invariant-loop-name l = (n : List ℕ × Span) → Contains (take l.name-index l.interface.above) n → ¬ IsNoInterface l.self.g.now n.0
