-- One more place is told.
use Rattle.std.proofs.Common.{◌≡◌, ◌+◌, ◌-◌, ◌<◌, ◌↔◌, IsTrue, length, get_or, ◌∙◌, subst, arith}
use Rattle.std.proofs.lemmas.List.{length-set}
use Rattle.std.proofs.lemmas.Option.{slice_get-get_or}
use Rattle.lw_program.specs.declared.instr.Instr.TheVariants.{Token}
use Rattle.lw_viable.specs.EmptyBy.{AreEmptyFrom, IsEmptyBy}
use Rattle.lw_viable.proofs.Later.{one_place_more}
use Rattle.lw_viable.proofs.begins.empty_places.empty_places.Goals as goal

pub places-preserved : goal.places-preserved
places-preserved c =
    let calls = c.args.calls.now in
    let code = c.args.code.now in
    let empty = c.places.empty.items in
    let was = c.places.invariant in
    let p = c.places.left - 1 in
    let within : p < length code = omega (arith, c.places-test.true, was.within) in
    let inside : p < length empty = omega (arith, within, was.sized) in
    let here : c.places.left ≡ p + 1 = omega (arith, c.places-test.true) in
    record {
      within = omega arith;
      sized = length-set empty p c.is_empty.result ∙ was.sized;
      told = λ later.
          one_place_more calls code later empty p (get_or code p (Token (record { 0 = 0 }))) c.is_empty.result inside
          (slice_get-get_or code p (Token (record { 0 = 0 })) within) (subst (AreEmptyFrom calls code empty) here (was.told later))
          (subst (λ flags. IsTrue c.is_empty.result ↔ IsEmptyBy calls code flags (get_or code p (Token (record { 0 = 0 })))) c.as_slice.ensures.value c.is_empty.ensures);
    }
