use Rattle.std.proofs.Common.{◌∷◌, [], Some, true, false, slice_set, refl, sym, ap, ◌∙◌, subst, arith}
use Rattle.std.specs.Option.{option_map}
use Rattle.std.proofs.lemmas.Bool.{true≢false}
use Rattle.std.proofs.lemmas.Option.{same_Some, slice_get-get_or, slice_get_within}
use Rattle.lw_types.specs.Sightings.{sighting, sightings}
use Rattle.lw_types.specs.Seeing.{AddsTo}
use Rattle.lw_types.proofs.Adding.{adds_one, adds_unwanted}
use Rattle.lw_types.proofs.Meeting.{ok_then}
use Rattle.lw_types.proofs.property_table.seeing.put_into.Goals as goal
use Rattle.lw_types.proofs.property_table.seeing.put_into.Goals.{else-at-wanted-via-then-at-wanted+then-wanted-at+else-at-gatherings, else-at-wanted-via-then-at-wanted+else-wanted-at, else-at-wanted-via-else-at-wanted}

pub returns-then-at-gatherings : goal.returns-then-at-gatherings
returns-then-at-gatherings c =
    let wanted = c.args.wanted.now in
    let put = c.args.put.now in
    let n = c.args.number in
    let old = c.args.gatherings.now in
    let s = sighting n c.in-Some.prop.0 put.list put.values.now in
    let one = ap (λ o. sightings (n ∷ []) (option_map (λ p. p.0) o) put.list put.values.now) c.in-Some.is in
    let now = slice_set old n c.put.new.self in
    ok_then c.put.result (λ puts. subst (λ more. AddsTo wanted more old now) (sym one) (adds_one wanted s old now _ c.put.new.self (slice_get-get_or old n _ c.if-at-gatherings.true) refl puts)) c.put.ensures

pub returns-else-at-wanted : goal.returns-else-at-wanted
returns-else-at-wanted c =
    let wanted = c.args.wanted.now in
    let put = c.args.put.now in
    let n = c.args.number in
    let now = c.args.gatherings.now in
    let s = sighting n c.in-Some.prop.0 put.list put.values.now in
    let one = ap (λ o. sightings (n ∷ []) (option_map (λ p. p.0) o) put.list put.values.now) c.in-Some.is in
    subst (λ more. AddsTo wanted more now now) (sym one) (adds_unwanted wanted s now (λ wants inside. elim c.else-at-wanted.branch [
      | else-at-wanted-via-then-at-wanted+then-wanted-at+else-at-gatherings w ↦ omega (arith, inside, w.if-at-gatherings.false)
      | else-at-wanted-via-then-at-wanted+else-wanted-at w ↦
          true≢false (same_Some true false (sym wants ∙ slice_get-get_or wanted n false w.if-at-wanted.true ∙ ap Some w.if-wanted-at.false))
      | else-at-wanted-via-else-at-wanted w ↦ omega (arith, slice_get_within wanted n true wants, w.if-at-wanted.false)
    ]))
