use Rattle.std.proofs.Common.{◌≡◌, ◌∙◌}
use Rattle.lw_lanes.specs.Utf8.{begins_character, begins_pair, utf16_units}
use Rattle.lw_lanes.proofs.Counting.{sum-of_two}
use Rattle.lw_lanes.proofs.Texts.{utf16_units-text}
use Rattle.lw_lanes.proofs.counts.utf16_len.Goals as goal

pub returns : goal.returns
returns c =
    let bytewise : c.total.result ≡ utf16_units c.args.bytes.now = c.total.ensures ∙ sum-of_two begins_character begins_pair c.args.bytes.now in
    record { bytewise = bytewise; of_text = λ is. bytewise ∙ utf16_units-text c.args.bytes.now is }
