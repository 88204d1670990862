use Rattle.lw_io.proofs.WrittenPaths.{take-before_query}
use Rattle.lw_io.proofs.paths.paths.before_query.Goals as goal

pub returns : goal.returns
returns c = take-before_query c.args.bytes.now _ c.path_length-length.ensures
