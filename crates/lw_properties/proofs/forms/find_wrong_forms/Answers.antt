use Rattle.std.proofs.Common.{map, subst, arith}
use Rattle.std.proofs.lemmas.List.{take_all}
use Rattle.lw_faults.specs.Properties.{WrongPropertyForm}
use Rattle.lw_faults.specs.Finding.{Finds, OfSome}
use Rattle.lw_faults.proofs.Joining.{Finds-told}
use Rattle.lw_properties.proofs.Recording.{told_misformed, misformed_there}
use Rattle.lw_properties.specs.Told.{MisformedAt}
use Rattle.lw_properties.specs.Places.{spot_of}
use Rattle.lw_properties.proofs.Found.{found_more}
use Rattle.lw_properties.proofs.forms.find_wrong_forms.Goals as goal

pub loop-place-preserved : goal.loop-place-preserved
loop-place-preserved c =
    found_more spot_of (MisformedAt c.args.known.now.g.now) c.args.places.now c.loop-place.place-index c.place-item.result c.loop-place-test.true c.place-item.is c.loop-place.invariant
    c.in_ok-wrong_form_at.ensures

pub returns : goal.returns
returns c =
    let g = c.args.known.now.g.now in
    let are = c.requires.places in
    let spots = map spot_of c.args.places.now in
    let all = take_all c.loop-place.place-index c.args.places.now (omega arith) in
    Finds-told (WrongPropertyForm g) (told_misformed g are.rows are.ways spots are.all) (misformed_there g are.rows are.ways spots are.all)
    (subst (λ xs. Finds (OfSome (MisformedAt g) (map spot_of xs)) c.args.found.now c.loop-place.found) all c.loop-place.invariant)
