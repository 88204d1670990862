use Rattle.std.proofs.Common.{sym, ◌∙◌, subst, true≢false}
use Rattle.lw_numbers.specs.Lists.{SomeAt}
use Rattle.lw_numbers.specs.Kin.{InterfaceLeads}
use Rattle.lw_numbers.specs.KinGraph.{PutsKin}
use Rattle.lw_numbers.proofs.Placing.{puts_none, puts_same, puts_kin_more, puts_kin_all, room_stays}
use Rattle.lw_numbers.proofs.subtypes.kinship.Kinship.put_interfaces.Goals as goal
use Rattle.lw_numbers.proofs.subtypes.kinship.Kinship.put_interfaces.Goals.{then-is_meant_interface+in_ok-put_interface, else-is_meant_interface}
use Rattle.lw_base.proofs.Lists.{item_at}

pub loop-number-preserved : goal.loop-number-preserved
loop-number-preserved c =
    let g = c.args.g.now in
    let items = c.as_slice-interface-items.result.now in
    let n = c.loop-number.number in
    let x = c.interface-item.result in
    let put : PutsKin (InterfaceLeads g n x) c.loop-number.self c.if-is_meant_interface.self = elim c.if-is_meant_interface.branch [
      | then-is_meant_interface+in_ok-put_interface w ↦ subst (λ k. PutsKin (InterfaceLeads g n x) c.loop-number.self k) (sym w.self-is)
          (puts_same (λ from to. (λ leads. (c.is_meant_interface.ensures.0 w.if-is_meant_interface.true, leads), λ leads. leads.1)) w.in_ok-put_interface.ensures)
      | else-is_meant_interface w ↦ subst (λ k. PutsKin (InterfaceLeads g n x) c.loop-number.self k) (sym w.self-is)
          (puts_none (λ from to leads. true≢false (sym (c.is_meant_interface.ensures.1 leads.0) ∙ w.if-is_meant_interface.false)))
    ] in
    record {
      room = room_stays g c.loop-number.invariant.room put;
      puts =
          puts_kin_more items (λ k interface. InterfaceLeads g k interface) n x (item_at items n x c.loop-number-test.true c.interface-item.is) c.loop-number.invariant.puts put;
    }

pub returns : goal.returns
returns c =
    let g = c.args.g.now in
    subst (λ xs. PutsKin (λ from to. SomeAt xs (λ k interface. InterfaceLeads g k interface from to)) c.args.self.now c.loop-number.self) c.as_slice-interface-items.ensures
    (puts_kin_all c.as_slice-interface-items.result.now (λ k interface. InterfaceLeads g k interface) c.loop-number.number c.loop-number-test.false c.loop-number.invariant.puts)
