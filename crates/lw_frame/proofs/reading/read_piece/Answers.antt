use Rattle.std.proofs.Common.{◌∙◌, sym}
use Rattle.lw_frame.proofs.Streams.{reads_faulty}
use Rattle.lw_frame.proofs.reading.read_piece.Goals as goal

pub returns-in-Some-clause-ok : goal.returns-in-Some-clause-ok
returns-in-Some-clause-ok c =
    let read = c.in-Ok.ensures.ok in
    (read.0, read.1, reads_faulty _ _ read.0 c.take.new.incoming c.new.result c.in-Some.fault read.2 (sym c.fault.ensures ∙ c.in-Some.is) c.new.ensures.bytes)
