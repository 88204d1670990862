use Rattle.lw_io.proofs.RoundTrip.{has_its_path}
use Rattle.lw_io.proofs.paths.laws.addresses_have_their_paths.Goals as goal

pub returns : goal.returns
returns c = has_its_path
