use Rattle.std.proofs.Common.{◌≡◌, ◌∙◌, subst}
use Rattle.lw_io.specs.Patterns.{anchored, RegexRefuses}
use Rattle.lw_io.specs.Patterns as patterns
use Rattle.lw_matching.proofs.nfa.nfa_of.Goals as goal

pub returns : goal.returns
returns c =
    let source_is : c.as_str.result.now ≡ anchored c.args.pattern.now = c.as_str.ensures.value ∙ c.in_ok-source.ensures.ok in
    record {
      made = tt;
      none = λ _. subst RegexRefuses source_is
          (patterns.by_grammar c.in-Err.error.kind c.in_default.not-OutOfMemory (rw c.default-config.ensures at c.in-Err.ensures.err));
    }
