use Rattle.lw_properties.proofs.Found.{get_or_same}
use Rattle.lw_faults.proofs.Joining.{Finds-more}
use Rattle.lw_properties.specs.Mixing.{PutsIn}
use Rattle.lw_properties.proofs.puts.put_into_all.Goals as goal

pub loop-number-preserved : goal.loop-number-preserved
loop-number-preserved c =
    let into = c.args.into.now in
    Finds-more (PutsIn c.args.known.now.g.now into.property.now into.list into.file into.span) c.args.types.now c.loop-number.number-index _ c.loop-number-test.true
    (get_or_same c.args.types.now c.loop-number.number-index _ _ c.loop-number-test.true) c.loop-number.invariant c.in_ok-put_into.ensures
