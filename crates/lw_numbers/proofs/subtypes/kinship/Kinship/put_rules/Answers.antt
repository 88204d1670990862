use Rattle.std.proofs.Common.{subst}
use Rattle.lw_numbers.specs.Lists.{SomeAt}
use Rattle.lw_numbers.specs.Kin.{RuleLeads}
use Rattle.lw_numbers.specs.KinGraph.{PutsKin}
use Rattle.lw_numbers.proofs.Placing.{puts_kin_more, puts_kin_all, room_stays}
use Rattle.lw_numbers.proofs.subtypes.kinship.Kinship.put_rules.Goals as goal
use Rattle.lw_base.proofs.Lists.{item_at}

pub loop-number-preserved : goal.loop-number-preserved
loop-number-preserved c =
    let g = c.args.g.now in
    let items = c.as_slice-rule-items.result.now in
    let n = c.loop-number.number in
    let x = c.rule-item.result in
    record {
      room = room_stays g c.loop-number.invariant.room c.in_ok-put_rule.ensures;
      puts =
          puts_kin_more items (λ k rule. RuleLeads g k rule) n x (item_at items n x c.loop-number-test.true c.rule-item.is) c.loop-number.invariant.puts
          c.in_ok-put_rule.ensures;
    }

pub returns : goal.returns
returns c =
    let g = c.args.g.now in
    subst (λ xs. PutsKin (λ from to. SomeAt xs (λ k rule. RuleLeads g k rule from to)) c.args.self.now c.loop-number.self) c.as_slice-rule-items.ensures
    (puts_kin_all c.as_slice-rule-items.result.now (λ k rule. RuleLeads g k rule) c.loop-number.number c.loop-number-test.false c.loop-number.invariant.puts)
