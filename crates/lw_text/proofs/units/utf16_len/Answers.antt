use Rattle.std.proofs.Common.{◌≡◌, ◌+◌, ◌-◌, ◌<◌, ◌∙◌, ap, sum_by, take, drop, chars, arith, length-take-le}
use Rattle.std.proofs.lemmas.Str.{IsCharBoundary-start, IsUtf8-take, chars-nil}
use Rattle.lw_text.specs.Position.{utf16_len}
use Rattle.lw_text.proofs.Counts.{boundary_onwards, units-between, utf16_units-chars-le}
use Rattle.lw_text.proofs.units.utf16_len.Goals as goal

-- the next piece begins further on
onwards : (c : goal.After-utf16_len_of_piece-units) → c.pieces.place < c.floor_char_boundary-next.result
onwards c =
    let next = c.floor_char_boundary-next in
    boundary_onwards c.args.text.now c.pieces.place _ next.result c.utf8.text c.pieces.invariant.boundary c.pieces-test.true (omega arith) next.ensures.nearest

counted : (c : goal.After-utf16_len_of_piece-units) → c.pieces.units + c.utf16_len_of_piece-units.result ≡ sum_by utf16_len (chars (take c.floor_char_boundary-next.result c.args.text.now))
counted c =
    let text = c.args.text.now in
    let place = c.pieces.place in
    let next = c.floor_char_boundary-next.result in
    let piece : c.utf16_len_of_piece-units.result ≡ sum_by utf16_len (chars (take (next - place) (drop place text))) = c.utf16_len_of_piece-units.ensures ∙ ap (λ bytes. sum_by utf16_len (chars bytes)) c.range.ensures.value in
    omega (arith, c.pieces.invariant.counted, piece, units-between utf16_len text place next c.utf8.text c.pieces.invariant.boundary (omega (arith, onwards c)))

pub pieces-init : goal.pieces-init
pieces-init c = record { boundary = IsCharBoundary-start c.args.text.now c.utf8.text; counted = omega (arith, ap (sum_by utf16_len) chars-nil) }

-- the units so far fit, since they are at most as many as the bytes
pub overflow_add-units : goal.overflow_add-units
overflow_add-units c =
    let text = c.args.text.now in
    let next = c.floor_char_boundary-next in
    let boundary = next.ensures.boundary in
    omega (arith, counted c, utf16_units-chars-le (take next.result text) (IsUtf8-take text next.result c.utf8.text boundary), length-take-le next.result text boundary.0, boundary.0, c.requires)

pub pieces-smaller : goal.pieces-smaller
pieces-smaller c = omega (arith, onwards c, c.floor_char_boundary-next.ensures.boundary.0)

pub pieces-preserved : goal.pieces-preserved
pieces-preserved c = record { boundary = c.floor_char_boundary-next.ensures.boundary; counted = counted c }
