use Rattle.std.proofs.Common.{inr}
use Rattle.lw_io.proofs.real_patterns.RealPatternsPatterns.make.Goals as goal

pub returns-clause-why : goal.returns-clause-why
returns-clause-why c refused = inr (c.compile-made.ensures.refused refused)
