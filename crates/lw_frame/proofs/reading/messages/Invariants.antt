use Rattle.std.proofs.Common.{◌-◌, length}
use Rattle.lw_frame.proofs.Readings.{StandsAt}
use Rattle.lw_frame.proofs.reading.messages.Given as goal

abbrev pub invariant-messages : goal.invariant-messages
invariant-messages l = StandsAt l.start l.bytes l.bodies.items l.used l.incoming

abbrev pub decreases-messages : goal.decreases-messages
decreases-messages l = length l.bytes - l.used
