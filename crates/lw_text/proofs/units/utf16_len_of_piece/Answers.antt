use Rattle.std.proofs.Common.{◌∙◌, length, ap}
use Rattle.lw_lanes.specs.Utf8.{in_utf16}
use Rattle.lw_text.proofs.Counts.{length-in_utf16}
use Rattle.lw_text.proofs.units.utf16_len_of_piece.Goals as goal

pub returns : goal.returns
returns c =
    c.utf16_len.ensures.of_text c.as_bytes.ensures.utf8 ∙ ap (λ text. length (in_utf16 text)) c.as_bytes.ensures.value ∙ length-in_utf16 c.args.text.now
