use Rattle.lw_faults.proofs.Joining.{Finds-where}
use Rattle.lw_gramcheck.specs.Parts.{IsMixed, at_rule}
use Rattle.lw_gramcheck.proofs.parts.data_types.find_mixed.Goals as goal

pub returns : goal.returns
returns c =
    let rule = c.args.rule.now in
    let mixed = c.is_mixed.ensures.0 c.if-not-is_mixed.false in
    Finds-where (IsMixed c.args.checker.now.g.now rule rule.result) (at_rule 13 rule) mixed c.in_ok-add.ensures
