use Rattle.std.proofs.Common.{◌≡◌, ◌+◌, ◌<◌, length, slice_get, get_or, Some, false, refl, sym, ap, ◌∙◌, subst, arith}
use Rattle.std.proofs.lemmas.Option.{none-some, same_Some, slice_get_within, slice_get-get_or, get_or_from_slice_get}
use Rattle.lw_numbers.specs.Numbering.{type_names}
use Rattle.lw_flow.proofs.NumberLemmas.{same_place}
use Rattle.lw_properties.specs.Typed.{AreTypesOfRules}
use Rattle.lw_properties.proofs.Marking.{types_passed, types_marked, same_bool, apart_bool}
use Rattle.lw_properties.proofs.rule_types.rule_types.Goals as goal
use Rattle.lw_properties.proofs.rule_types.rule_types.Goals.{then-nodes-number+in-Some, then-nodes-number+in_default, else-nodes-number}

pub index_mut-requires : goal.index_mut-requires
index_mut-requires c =
    let g = c.args.g.now in
    let n = c.in-Some.id.0 in
    let has = (c.in-Some.ensures g c.requires.numbers n).1 refl in
    omega (arith, slice_get_within (type_names g) n has.0 (same_place has.0 (type_names g) n has.2), c.loop-number.invariant.all, c.loop-number.types.ok.0)

pub loop-number-preserved : goal.loop-number-preserved
loop-number-preserved c =
    let g = c.args.g.now in
    let nodes = c.args.nodes.now in
    let makes = c.args.makes in
    let k = c.loop-number.number in
    let rule = c.rule-item.result in
    let flags = c.loop-number.types.items in
    let items = c.as_slice-rule-items.result.now in
    let there = ap (λ rules. slice_get rules k) (sym c.as_slice-rule-items.ensures) ∙ slice_get-get_or items k rule c.loop-number-test.true ∙ ap Some (sym c.rule-item.is) in
    let inside : k < length nodes = omega (arith, c.loop-number-test.true, c.requires.nodes.all, ap length c.as_slice-rule-items.ensures) in
    elim c.if-nodes-number.branch [
      | then-nodes-number+in-Some w ↦
          let m = w.in-Some.id.0 in
          let has = (w.in-Some.ensures g c.requires.numbers m).1 refl in
          let within : m < length flags = omega (arith, slice_get_within (type_names g) m has.0 (same_place has.0 (type_names g) m has.2), c.loop-number.invariant.all) in
          types_marked g nodes makes k rule there flags c.loop-number.invariant m c.if-nodes-number.types.items (ap (λ v. v.items) w.types-is) within
          (slice_get-get_or nodes k false inside ∙ ap Some (same_bool (get_or nodes k false) makes w.if-nodes-number.true)) has
          (λ n other. sym (same_Some m n ((w.in-Some.ensures g c.requires.numbers n).0 other)))
      | then-nodes-number+in_default w ↦
          subst (λ v. AreTypesOfRules g nodes makes (k + 1) v.items) (sym w.types-is)
          (types_passed g nodes makes k rule there flags c.loop-number.invariant (λ n does has. none-some n ((w.in_default.ensures g c.requires.numbers n).0 has)))
      | else-nodes-number w ↦
          subst (λ v. AreTypesOfRules g nodes makes (k + 1) v.items) (sym w.types-is)
          (types_passed g nodes makes k rule there flags c.loop-number.invariant (λ n does has. apart_bool (get_or nodes k false) makes w.if-nodes-number.false (get_or_from_slice_get nodes k makes false does)))
    ]

pub returns : goal.returns
returns c =
    let end : c.loop-number.number ≡ length c.args.g.now.rules = omega (arith, c.loop-number-test.false, c.loop-number.auto, ap length c.as_slice-rule-items.ensures) in
    subst (λ n. AreTypesOfRules c.args.g.now c.args.nodes.now c.args.makes n c.loop-number.types.items) end c.loop-number.invariant
