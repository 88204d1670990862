use Rattle.std.proofs.Common.{◌≡◌, map, take}
use Rattle.lw_rename.specs.SpansOf.{keyed_span}
use Rattle.lw_rename.proofs.mentions.in_order.Given as goal

abbrev pub invariant-listing : goal.invariant-listing
invariant-listing l = l.spans ≡ map keyed_span (take l.key-index l.key-items)
