use Rattle.lw_io.proofs.Escaped.{escaped-is}
use Rattle.lw_io.proofs.paths.laws.escaped_bytes.Goals as goal

pub returns : goal.returns
returns c = escaped-is
