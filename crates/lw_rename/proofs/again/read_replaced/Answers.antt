use Rattle.std.proofs.Common.{ℕ, ◌<◌, List, length, subst₂}
use Rattle.lw_base.specs.declared.limits.TheConstants.{LONGEST_DOCUMENT}
use Rattle.lw_reading.specs.Reading.{too_large}
use Rattle.lw_places.specs.Renamed.{broken}
use Rattle.lw_places.specs.Replacing.{replaced}
use Rattle.lw_rename.proofs.again.read_replaced.Goals as goal

pub returns-in-Ok-None : goal.returns-in-Ok-None
returns-in-Ok-None c =
    broken (too_large (subst₂ (λ (new text : List ℕ). LONGEST_DOCUMENT < length (replaced new text c.args.spans.now)) c.bytes-2.ensures.bytes c.bytes.ensures.bytes
    (rw c.in-Ok-None.field-0-is at c.in-Ok-None.ensures)))
