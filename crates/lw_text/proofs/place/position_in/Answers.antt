use Rattle.std.proofs.Common.{refl, sym, ap, subst₂, arith}
use Rattle.std.proofs.lemmas.Str.Pattern.{strip_suffix_char}
use Rattle.lw_text.proofs.Index.{IsLineOf-boundary}
use Rattle.lw_text.proofs.Places.{position_at, start_before_floor, IsStripped, stripped}
use Rattle.lw_text.proofs.place.position_in.Goals as goal

pub range-piece-requires-clause-start_le_end : goal.range-piece-requires-clause-start_le_end
range-piece-requires-clause-start_le_end c =
    let text = c.args.text.now in
    let line = c.args.line in
    let starts = IsLineOf-boundary text c.args.offset line.number line.start c.utf8.text c.requires.line in
    start_before_floor text line.start c.args.offset c.floor_char_boundary.result starts c.requires.line.inside.0 c.floor_char_boundary.ensures.nearest

pub range-piece-requires-clause-start_boundary : goal.range-piece-requires-clause-start_boundary
range-piece-requires-clause-start_boundary c some =
    IsLineOf-boundary c.args.text.now c.args.offset c.args.line.number c.args.line.start c.utf8.text c.requires.line

pub returns : goal.returns
returns c =
    let text = c.args.text.now in
    let line = c.args.line in
    let floor = c.floor_char_boundary in
    let piece = c.range-piece.result in
    let found = c.strip_suffix.result in
    let content = c.unwrap_or-content in
    let cases = stripped piece.now found piece refl (strip_suffix_char 13 piece.now found c.strip_suffix.ensures.cases (omega arith)) in
    let strip = subst₂ (λ whole held. IsStripped whole held) c.range-piece.ensures.value (sym (ap (λ r. r.now) content.ensures)) cases in
    let starts = IsLineOf-boundary text c.args.offset line.number line.start c.utf8.text c.requires.line in
    position_at c.args.enc text c.args.offset line.number line.start floor.result content.result.now c.units_in.result c.utf8.text c.requires.within c.requires.line starts floor.ensures.bound
    floor.ensures.boundary floor.ensures.nearest content.utf8 strip c.units_in.ensures
