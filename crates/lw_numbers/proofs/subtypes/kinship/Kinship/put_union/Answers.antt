use Rattle.std.proofs.Common.{sym, subst}
use Rattle.lw_grammar.specs.declared.declared_types.Member.{Member}
use Rattle.lw_numbers.specs.Lists.{SomeAt}
use Rattle.lw_numbers.specs.Kin.{MemberLeads}
use Rattle.lw_numbers.specs.KinGraph.{PutsKin}
use Rattle.lw_numbers.proofs.Placing.{puts_none, puts_kin_more, puts_kin_all, names_fit, no_member_leads}
use Rattle.lw_numbers.proofs.subtypes.kinship.Kinship.put_union.Goals as goal
use Rattle.lw_numbers.proofs.subtypes.kinship.Kinship.put_union.Goals.{in-Named+in_ok-put, in_default}
use Rattle.lw_base.proofs.Lists.{item_at}

pub loop-member-preserved : goal.loop-member-preserved
loop-member-preserved c =
    let union = c.args.union.now in
    let items = c.as_slice-member-items.result.now in
    let n = c.loop-member.member-index in
    let x = c.member-item.result in
    let put : PutsKin (MemberLeads union x) c.loop-member.self c.match-member.self = elim c.match-member.branch [
      | in-Named+in_ok-put w ↦ subst (λ k. PutsKin (MemberLeads union x) c.loop-member.self k) (sym w.self-is)
          (subst (λ (m : Member). PutsKin (MemberLeads union m) c.loop-member.self w.put.new.self) (sym w.in-Named.is) w.in_ok-put.ensures)
      | in_default w ↦ subst (λ k. PutsKin (MemberLeads union x) c.loop-member.self k) (sym w.self-is) (puts_none (no_member_leads union x w.in_default.not-Named))
    ] in
    record {
      room = names_fit c.loop-member.invariant.room put;
      puts =
          puts_kin_more items (λ k member. MemberLeads union member) n x (item_at items n x c.loop-member-test.true c.member-item.is) c.loop-member.invariant.puts put;
    }

pub returns : goal.returns
returns c =
    let union = c.args.union.now in
    subst (λ xs. PutsKin (λ from to. SomeAt xs (λ k member. MemberLeads union member from to)) c.args.self.now c.loop-member.self) c.as_slice-member-items.ensures
    (puts_kin_all c.as_slice-member-items.result.now (λ k member. MemberLeads union member) c.loop-member.member-index c.loop-member-test.false c.loop-member.invariant.puts)
