use Rattle.std.specs.Io.KnownBytes.{Keeps}
use Rattle.lw_io.proofs.std_source.read_again.Given as goal

abbrev pub invariant-reading : goal.invariant-reading
invariant-reading g l = Keeps (g.R.Read.remaining l.fn.reader) (g.R.Read.remaining l.reader)
