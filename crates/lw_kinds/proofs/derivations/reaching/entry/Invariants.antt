use Rattle.std.proofs.Common.{◌≡◌, true}
use Rattle.lw_grammar.specs.declared.rule.Rule.{Rule}
use Rattle.lw_kinds.specs.Edges.{EachBelow}
use Rattle.lw_kinds.proofs.derivations.reaching.entry.Given as goal

abbrev pub invariant-loop-number : goal.invariant-loop-number
invariant-loop-number l = EachBelow (λ (x : Rule). ¬ ((x.is_entry ≡ true) × (x.file ≡ 0))) l.g.rules l.number
