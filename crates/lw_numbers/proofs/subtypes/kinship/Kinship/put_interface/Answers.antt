use Rattle.std.proofs.Common.{subst}
use Rattle.lw_numbers.specs.Lists.{SomeAt}
use Rattle.lw_numbers.specs.Kin.{OfType, IsEdge}
use Rattle.lw_numbers.specs.KinGraph.{PutsKin}
use Rattle.lw_numbers.proofs.Placing.{puts_kin_more, puts_kin_all, names_fit}
use Rattle.lw_numbers.proofs.subtypes.kinship.Kinship.put_interface.Goals as goal
use Rattle.lw_base.proofs.Lists.{item_at}

pub loop-above-preserved : goal.loop-above-preserved
loop-above-preserved c =
    let items = c.as_slice-above-items.result.now in
    let n = c.loop-above.above-index in
    let x = c.loop-above-item.result in
    record {
      room = names_fit c.loop-above.invariant.room c.in_ok-put.ensures;
      puts =
          puts_kin_more items (λ k above. IsEdge (OfType c.args.interface.now.name) (OfType above.0)) n x (item_at items n x c.loop-above-test.true c.loop-above-item.is)
          c.loop-above.invariant.puts c.in_ok-put.ensures;
    }

pub returns : goal.returns
returns c =
    let interface = c.args.interface.now in
    subst (λ xs. PutsKin (λ from to. SomeAt xs (λ k above. IsEdge (OfType interface.name) (OfType above.0) from to)) c.args.self.now c.loop-above.self) c.as_slice-above-items.ensures
    (puts_kin_all c.as_slice-above-items.result.now (λ k above. IsEdge (OfType interface.name) (OfType above.0)) c.loop-above.above-index c.loop-above-test.false
    c.loop-above.invariant.puts)
