use Rattle.std.proofs.Common.{◌≡◌, ◌-◌, ◌∙◌, ap, sum_by, take, drop, chars, arith}
use Rattle.std.proofs.lemmas.Str.{IsCharBoundary-start, chars-nil}
use Rattle.lw_text.specs.Position.{units_of}
use Rattle.lw_text.proofs.Counts.{units-between}
use Rattle.lw_text.proofs.units.pass_over.Goals as goal

pub strides-init : goal.strides-init
strides-init c = record { boundary = IsCharBoundary-start c.args.text.now c.utf8.text; counted = omega (arith, ap (sum_by (units_of c.args.enc)) chars-nil) }

pub strides-preserved : goal.strides-preserved
strides-preserved c =
    let text = c.args.text.now in
    let size = units_of c.args.enc in
    let place = c.strides.place in
    let next = c.floor_char_boundary-next.result in
    let so_far = c.strides.invariant in
    let taken : c.units_in-taken.result ≡ sum_by size (chars (take (next - place) (drop place text))) = c.units_in-taken.ensures ∙ ap (λ bytes. sum_by size (chars bytes)) c.range.ensures.value in
    record {
      boundary = c.floor_char_boundary-next.ensures.boundary;
      counted = omega (arith, so_far.counted, taken, c.if-taken-left.false, units-between size text place next c.utf8.text so_far.boundary (omega arith));
    }
