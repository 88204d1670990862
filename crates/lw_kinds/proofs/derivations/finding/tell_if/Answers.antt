use Rattle.std.specs.Prelude.{IsTrue}
use Rattle.lw_faults.specs.Kinds.{number_of}
use Rattle.lw_kinds.specs.Telling.{SpeaksOf}
use Rattle.lw_kinds.proofs.FindsLemmas.{Finds-same}
use Rattle.lw_kinds.proofs.derivations.finding.tell_if.Goals as goal

pub returns-in_ok-add : goal.returns-in_ok-add
returns-in_ok-add c =
    Finds-same (SpeaksOf (number_of c.args.kind) c.args.rule.now) (λ f. IsTrue c.args.is_so × SpeaksOf (number_of c.args.kind) c.args.rule.now f) (λ f. (λ of. (c.if-is_so.true, of), λ both. both.1))
    c.args.found.now c.add.new.self c.in_ok-add.ensures
