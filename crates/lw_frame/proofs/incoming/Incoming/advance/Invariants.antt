use Rattle.std.proofs.Common.{◌-◌, length}
use Rattle.lw_frame.specs.Reading.{Grows, KeepsFront}
use Rattle.lw_frame.proofs.incoming.Incoming.advance.Given as goal

abbrev pub invariant-lines : goal.invariant-lines
invariant-lines l = record {
  grows : Grows l.fn.self l.self l.piece l.used;
  front : KeepsFront l.fn.self l.self;
}

abbrev pub decreases-lines : goal.decreases-lines
decreases-lines l = length l.piece - l.used
