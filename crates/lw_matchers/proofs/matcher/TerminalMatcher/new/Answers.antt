use Rattle.lw_matchers.proofs.CompiledLemmas.{matches_as}
use Rattle.lw_matchers.proofs.matcher.TerminalMatcher.new.Goals as goal

pub invariant_of-result : goal.invariant_of-result
invariant_of-result c = rw c.in_ok-matcher.ensures.pattern (matches_as c.args.pattern.now c.args.regex.now c.requires.compiled, c.requires.first)
