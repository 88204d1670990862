use Rattle.std.proofs.Common.{take}
use Rattle.lw_rename.specs.SpansOf.{AreAllSpans}
use Rattle.lw_rename.proofs.mentions.spans_of_all.Given as goal

abbrev pub invariant-gathering : goal.invariant-gathering
invariant-gathering l = AreAllSpans l.target (take l.view-index l.views) l.spans.items
