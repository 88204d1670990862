use Rattle.lw_properties.proofs.Found.{found_name}
use Rattle.lw_properties.proofs.inferred.put_name.Goals as goal

pub returns : goal.returns
returns c = found_name c.args.names.now.keys c.insert.new.self.keys c.in_ok-copy.field-0 c.args.name.now c.in_ok-copy.ensures c.in_ok-insert.ensures.keys
