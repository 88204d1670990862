use Rattle.std.proofs.Common.{◌++◌, ◌∙◌, ◌+◌, ap, subst, take, chars}
use Rattle.lw_text.specs.Position.{AreCharsWithin, units_of}
use Rattle.lw_text.proofs.Within.{AreCharsWithin-after, length-after}
use Rattle.lw_text.proofs.units.place_behind.Goals as goal

pub returns : goal.returns
returns c =
    let text = c.args.text.now in
    let size = units_of c.args.enc in
    let place = c.pass_over-place.result.0 in
    let left = c.pass_over-place.result.1 in
    let at = c.pass_over-place.ensures.boundary in
    let counted = c.pass_over-place.ensures.left in
    let ds = c.place_among.ensures.0 in
    let found = subst (λ bytes. AreCharsWithin size bytes left ds) c.range_from.ensures.value c.place_among.ensures.1 in (
      chars (take place text) ++ ds,
      AreCharsWithin-after size text place left c.args.units ds c.utf8.text at counted found,
      ap (λ n. place + n) c.place_among.ensures.2 ∙ length-after size text place left c.args.units ds c.utf8.text at counted found,
    )
