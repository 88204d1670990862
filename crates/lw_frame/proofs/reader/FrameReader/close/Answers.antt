use Rattle.std.proofs.Common.{true}
use Rattle.lw_frame.proofs.Streams.{held_is_needed}
use Rattle.lw_frame.proofs.reader.FrameReader.close.Goals as goal

pub returns-clause-held : goal.returns-clause-held
returns-clause-held c =
    let a = c.self.inside in
    held_is_needed a.finished.items a.incoming a.fault a.history.fed a.history.given true c.self.invariant.finished c.self.invariant.rest
