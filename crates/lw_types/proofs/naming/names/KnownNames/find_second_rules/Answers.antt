use Rattle.std.proofs.Common.{length, ap, arith}
use Rattle.lw_faults.proofs.Joining.{Finds-at-more, Finds-at-all}
use Rattle.lw_types.specs.Seconds.{TellsSecondRule}
use Rattle.lw_types.proofs.Membership.{item_at}
use Rattle.lw_types.proofs.naming.names.KnownNames.find_second_rules.Goals as goal

pub loop-i-preserved : goal.loop-i-preserved
loop-i-preserved c =
    let g = c.args.self.now.g.now in
    let lent = c.as_slice-rule-items in
    let x = c.rule-item.result in
    Finds-at-more (TellsSecondRule g) g.rules c.loop-i.i x (item_at lent.result.now g.rules c.loop-i.i x lent.ensures (omega arith) c.rule-item.is)
    c.loop-i.invariant c.in_ok-find_second_rule.ensures

pub returns : goal.returns
returns c =
    let g = c.args.self.now.g.now in
    Finds-at-all (TellsSecondRule g) g.rules c.loop-i.i (omega (arith, ap length c.as_slice-rule-items.ensures)) c.loop-i.invariant
