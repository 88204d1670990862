use Rattle.std.specs.Io.KnownBytes.{Keeps}
use Rattle.lw_io.proofs.std_sink.write_again.Given as goal

abbrev pub invariant-writing : goal.invariant-writing
invariant-writing g l = Keeps (g.W.Write.contents l.fn.writer) (g.W.Write.contents l.writer)
