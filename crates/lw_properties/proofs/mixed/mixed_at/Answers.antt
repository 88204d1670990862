use Rattle.lw_faults.specs.Faults.{fault}
use Rattle.lw_properties.proofs.Found.{found_if}
use Rattle.lw_properties.proofs.mixed.mixed_at.Goals as goal

pub returns : goal.returns
returns c puts are =
    let put = c.args.put.now in
    found_if (fault 16 put.file put.span put.property.now) c.args.found.now c.tell_if.new.found c.tell_if.result c.is_mixed-so.result (c.is_mixed-so.ensures puts are) c.tell_if.ensures
