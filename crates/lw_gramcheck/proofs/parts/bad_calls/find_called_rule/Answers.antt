use Rattle.std.proofs.lemmas.Result.{on_ok_weaker}
use Rattle.lw_faults.specs.Faults.{fault}
use Rattle.lw_faults.proofs.Joining.{Finds-where, Finds-unless}
use Rattle.lw_gramcheck.specs.BadSites.{IsOfRule}
use Rattle.lw_gramcheck.proofs.MeaningLemmas.{never_both, no_rule}
use Rattle.lw_gramcheck.proofs.parts.bad_calls.find_called_rule.Goals as goal

pub returns-in-Rule : goal.returns-in-Rule
returns-in-Rule c =
    let g = c.args.checker.now.g.now in
    let name = c.args.call.now.0.now in
    on_ok_weaker c.add.result
    (Finds-where (IsOfRule g name) (fault 21 c.args.terminal.now.file c.args.call.now.1 name) (c.in-Rule.field-0, c.in-Rule.field-1.now, c.in-Rule.ensures))
    c.add.ensures

pub returns-in-Terminal : goal.returns-in-Terminal
returns-in-Terminal c =
    let g = c.args.checker.now.g.now in
    let name = c.args.call.now.0.now in
    Finds-unless (IsOfRule g name) (fault 21 c.args.terminal.now.file c.args.call.now.1 name)
    (λ (r, rule, is). never_both g name r c.in-Terminal.field-0 rule c.in-Terminal.field-1.now is c.in-Terminal.ensures)

pub returns-in-Nothing : goal.returns-in-Nothing
returns-in-Nothing c =
    let g = c.args.checker.now.g.now in
    let name = c.args.call.now.0.now in
    Finds-unless (IsOfRule g name) (fault 21 c.args.terminal.now.file c.args.call.now.1 name) (λ (r, rule, is). no_rule g name c.in-Nothing.ensures r rule is)
