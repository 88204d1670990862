use Rattle.std.proofs.Common.{Some, None, refl, sym, ap, ◌∙◌, subst}
use Rattle.std.proofs.lemmas.Bool.{true≢false}
use Rattle.lw_grammar.specs.Leaves.{Act}
use Rattle.lw_types.specs.Sightings.{sightings, one_of, prop_number, current_nodes}
use Rattle.lw_types.specs.Sightings as along
use Rattle.lw_types.specs.Seeing.{AddsTo}
use Rattle.lw_types.proofs.Adding.{sees_nothing, sees_action, adds_as, adds_none, no_sightings}
use Rattle.lw_types.proofs.Meeting.{ok_then}
use Rattle.lw_types.proofs.property_table.seeing.see_action.Goals as goal

pub returns-then-not-is_come_to : goal.returns-then-not-is_come_to
returns-then-not-is_come_to c =
    sees_nothing c.args.source.now.g.now c.args.wanted.now (Act c.args.action.now) c.args.before.now c.args.gatherings.now
    (along.not_come_to (λ come. true≢false (sym (c.is_come_to.ensures.1 come) ∙ c.if-not-is_come_to.true)))

pub returns-in-Some-type_of : goal.returns-in-Some-type_of
returns-in-Some-type_of c =
    let g = c.args.source.now.g.now in
    let wanted = c.args.wanted.now in
    let a = c.args.action.now in
    let p = c.in-Some in
    ok_then c.put_into.result (λ adds. sees_action g wanted c.args.before.now a c.args.gatherings.now c.put_into.new.gatherings (Some (p.property, p.list))
    (c.is_come_to.ensures.0 c.if-not-is_come_to.false) p.is
    (adds_as wanted (ap one_of (c.in-Some-type_of.ensures g c.requires.numbers)) (c.prop.ensures g c.requires.numbers) refl (c.as_slice.ensures.value ∙ c.in_ok-values-in-Some.ensures) adds)) c.put_into.ensures

pub returns-in-Some : goal.returns-in-Some
returns-in-Some c =
    let g = c.args.source.now.g.now in
    let wanted = c.args.wanted.now in
    let now = c.args.gatherings.now in
    let before = c.args.before.now in
    let p = c.in-Some in
    let none = ap (λ o. sightings (one_of o) (prop_number g p.property) p.list (current_nodes g before)) (sym (c.in-None-type_of.ensures g c.requires.numbers))
    ∙ no_sightings (prop_number g p.property) p.list (current_nodes g before) in
    sees_action g wanted before c.args.action.now now now (Some (p.property, p.list)) (c.is_come_to.ensures.0 c.if-not-is_come_to.false) p.is
    (subst (λ more. AddsTo wanted more now now) (sym none) (adds_none wanted now))

pub returns : goal.returns
returns c =
    sees_action c.args.source.now.g.now c.args.wanted.now c.args.before.now c.args.action.now c.args.gatherings.now c.args.gatherings.now None
    (c.is_come_to.ensures.0 c.if-not-is_come_to.false) c.in-None.is (adds_none c.args.wanted.now c.args.gatherings.now)
