use Rattle.std.proofs.Common.{◌≡◌, ◌≤◌, ◌++◌, ◌∷◌, [], ◌∙◌, refl, sym, ap, append_assoc, append-nil, length, length-append, sum_by, encode_utf8, encode_utf8_all, arith}
use Rattle.std.proofs.lemmas.List.Sums.{sum_by_push}
use Rattle.std.proofs.lemmas.Str.{encodes-append}
use Rattle.lw_text.specs.Position.{units_of}
use Rattle.lw_text.proofs.Within.{AreCharsWithin-all, AreCharsWithin-cut}
use Rattle.lw_text.proofs.units.place_among.Goals as goal

pub loop-c-init : goal.loop-c-init
loop-c-init c = record {
  parts = sym c.chars-c-items.ensures.rest ∙ ap (λ s. s.rest.now) (sym c.into_iter-c-iterator.ensures.into_iter_gives);
  far = refl;
  counted = omega arith;
}

-- a character more
pub overflow_add-place : goal.overflow_add-place
overflow_add-place c =
    let so_far = c.loop-c.invariant in
    let is = c.in-Some.ensures.steps.0 in
    omega (arith, ap length so_far.parts, length-append (encode_utf8_all c.loop-c.yielded) c.loop-c.c-iterator.rest.now, ap length is, length-append (encode_utf8 c.in-Some.c) c.next.new.self.rest.now, c.len_utf8-place.ensures.len)

pub loop-c-preserved : goal.loop-c-preserved
loop-c-preserved c =
    let so_far = c.loop-c.invariant in
    let one = c.in-Some.c in
    let cs = c.loop-c.yielded in
    let more = c.next.new.self.rest.now in
    let spelled : encode_utf8_all (cs ++ one ∷ []) ≡ encode_utf8_all cs ++ encode_utf8 one = encodes-append cs (one ∷ []) ∙ ap (λ bytes. encode_utf8_all cs ++ bytes) (append-nil (encode_utf8 one)) in
    record {
      parts = so_far.parts ∙ ap (λ bytes. encode_utf8_all cs ++ bytes) c.in-Some.ensures.steps.0 ∙ sym (append_assoc (encode_utf8_all cs) (encode_utf8 one) more) ∙ ap (λ bytes. bytes ++ more) (sym spelled);
      far = omega (arith, so_far.far, ap length spelled, length-append (encode_utf8_all cs) (encode_utf8 one), c.len_utf8-place.ensures.len);
      counted = omega (arith, so_far.counted, sum_by_push (units_of c.args.enc) cs one, c.units_at-size.ensures);
    }

pub returns-in-None : goal.returns-in-None
returns-in-None c =
    let so_far = c.loop-c.invariant in
    let within : sum_by (units_of c.args.enc) c.loop-c.yielded ≤ c.args.units = omega (arith, so_far.counted) in
    (c.loop-c.yielded, AreCharsWithin-all (units_of c.args.enc) c.args.text.now c.args.units c.loop-c.yielded c.loop-c.c-iterator.rest.now c.utf8.text so_far.parts within c.in-None.ensures.steps.0.0, so_far.far)

pub returns-then-size-left : goal.returns-then-size-left
returns-then-size-left c =
    let so_far = c.loop-c.invariant in
    let cs = c.loop-c.yielded in
    let size = units_of c.args.enc in
    let within : sum_by size cs ≤ c.args.units = omega (arith, so_far.counted) in
    (cs, AreCharsWithin-cut size c.args.text.now c.args.units cs c.loop-c.c-iterator.rest.now c.utf8.text so_far.parts within c.in-Some.c c.next.new.self.rest.now c.in-Some.ensures.steps.0 (omega (arith, so_far.counted, c.units_at-size.ensures, c.if-size-left.true)), so_far.far)
