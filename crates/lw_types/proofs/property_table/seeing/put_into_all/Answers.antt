use Rattle.std.proofs.Common.{◌∷◌, [], take, get_or, sym, ap, ◌∙◌, subst}
use Rattle.std.specs.Option.{option_map}
use Rattle.std.proofs.lemmas.List.{take_more, take_all}
use Rattle.lw_types.specs.Seeing.{AddsTo, sightings_of}
use Rattle.lw_types.proofs.Adding.{adds_both, sightings_more}
use Rattle.lw_types.proofs.property_table.seeing.put_into_all.Goals as goal

pub loop-number-preserved : goal.loop-number-preserved
loop-number-preserved c =
    let wanted = c.args.wanted.now in
    let put = c.args.put.now in
    let prop = option_map (λ p. p.0) put.prop in
    let types = c.args.types.now in
    let i = c.loop-number.number-index in
    let longer = sightings_more (take i types) (get_or types i 0 ∷ []) prop put.list put.values.now ∙ ap (sightings_of put) (sym (take_more types i 0 c.loop-number-test.true)) in
    subst (λ more. AddsTo wanted more c.args.gatherings.now c.put_into.new.gatherings) longer (adds_both wanted c.loop-number.invariant c.in_ok-put_into.ensures)

pub returns : goal.returns
returns c =
    let put = c.args.put.now in
    subst (λ more. AddsTo c.args.wanted.now more c.args.gatherings.now c.loop-number.gatherings)
    (ap (sightings_of put) (take_all c.loop-number.number-index c.args.types.now c.loop-number-test.false)) c.loop-number.invariant
