use Rattle.std.proofs.Common.{◌∙◌, sym, inl, inr, rules}
use Rattle.lw_io.proofs.mem_patterns.MemPatternsPatterns.make.Goals as goal
use Rattle.lw_io.proofs.mem_patterns.MemPatternsPatterns.make.Goals.{then-contains, else-contains}

pub returns-clause-why : goal.returns-clause-why
returns-clause-why c refused = elim c.if-contains.branch [
  | then-contains w ↦ inl (search rules)
  | else-contains w ↦ inr (w.compile-made.ensures.refused (sym w.made-is ∙ refused))
]
