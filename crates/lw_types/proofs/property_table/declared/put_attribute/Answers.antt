use Rattle.std.proofs.Common.{[], false, refl, sym, ap, ◌∙◌, subst}
use Rattle.std.specs.Option.{option_map_or}
use Rattle.lw_types.specs.Having.{is_new}
use Rattle.lw_types.specs.Values.{MembersGive}
use Rattle.lw_types.proofs.Meeting.{ok_then}
use Rattle.lw_types.proofs.Declaring.{declared_again, declared_before, declared_new}
use Rattle.lw_types.proofs.property_table.declared.put_attribute.Goals as goal

pub returns-then-has : goal.returns-then-has
returns-then-has c before are =
    let g = c.args.source.now.g.now in
    declared_again g before c.args.attribute.now c.in-Some.prop.0 (sym (c.in-Some.ensures g c.requires.numbers)) are (sym c.has.ensures ∙ c.if-has.true)

pub returns-in_ok-values-in-Some : goal.returns-in_ok-values-in-Some
returns-in_ok-values-in-Some c =
    let g = c.args.source.now.g.now in
    let a = c.args.attribute.now in
    let given = c.as_slice-in-Some.result.now in
    let by_items = subst (MembersGive g [] c.as_slice.result.now) (sym c.as_slice-in-Some.ensures.value) c.in_ok-values-in-Some.ensures in
    let members = subst (λ ms. MembersGive g [] ms given) c.as_slice.ensures by_items in
    ok_then c.put.result (λ puts before are. declared_new g before a c.in-Some.prop.0 (sym (c.in-Some.ensures g c.requires.numbers)) are refl members puts
    (sym c.has.ensures ∙ c.if-has.false)) c.put.ensures

pub returns-in-None : goal.returns-in-None
returns-in-None c before are =
    let g = c.args.source.now.g.now in
    declared_before g before c.args.attribute.now are (ap (λ o. option_map_or (is_new []) o false) (sym (c.in-None.ensures g c.requires.numbers)))
