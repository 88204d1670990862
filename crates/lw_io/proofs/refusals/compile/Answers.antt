use Rattle.std.proofs.Common.{◌≡◌, ◌≢◌, ◌∙◌, subst}
use Rattle.regex.specs.declared.error.Error.TheVariants.{OutOfMemory}
use Rattle.lw_io.specs.Patterns.{anchored, RegexRefuses}
use Rattle.lw_io.specs.declared.patterns.MakeFault.TheVariants.{NoMemory}
use Rattle.lw_io.proofs.Refusing.{refuses}
use Rattle.lw_io.proofs.refusals.compile.Goals as goal

pub returns : goal.returns
returns c = record {
  source = tt;
  config = tt;
  read = tt;
  refused = λ refused.
      let source_is : c.as_str.result.now ≡ anchored c.args.text.now = c.as_str.ensures.value ∙ c.in-Ok.ensures.ok in
      let not_memory : c.in-Err.error ≢ OutOfMemory = λ is. let memory : c.make_fault.result ≡ NoMemory = c.make_fault.ensures.1 is in cc in
      subst RegexRefuses source_is (refuses _ _ not_memory c.in-Err.ensures.no_internal c.in-Err.ensures.by_grammar c.in-Err.ensures.kind);
}
