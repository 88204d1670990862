use Rattle.lw_numbers.proofs.Speaking.{all_names}
use Rattle.lw_numbers.proofs.subtypes.names.names.Goals as goal

pub returns : goal.returns
returns c = all_names c.args.g.now c.as_slice.ensures c.as_slice-2.ensures (c.in_ok-names.ensures c.args.g.now c.requires) c.in_ok-put_interfaces.ensures c.in_ok-put_unions.ensures
