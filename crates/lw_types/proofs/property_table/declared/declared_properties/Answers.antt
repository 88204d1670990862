use Rattle.std.proofs.Common.{[], map, refl, sym, ◌∙◌, subst, arith}
use Rattle.std.proofs.lemmas.List.{take_all}
use Rattle.lw_properties.specs.Search.{attributes_of}
use Rattle.lw_types.specs.Having.{AreDeclaredIn}
use Rattle.lw_types.specs.Having as have
use Rattle.lw_types.proofs.Declaring.{declared_as}
use Rattle.lw_types.proofs.Meeting.{if_ok_then}
use Rattle.lw_types.proofs.property_table.declared.declared_properties.Goals as goal

pub loop-interface-init : goal.loop-interface-init
loop-interface-init c = subst (AreDeclaredIn c.args.source.now.g.now [] []) (sym c.new-gathering.ensures) (have.none refl)

pub returns : goal.returns
returns c =
    let g = c.args.source.now.g.now in
    let items = c.deref-interface-items.result.now in
    let follows = c.in_ok-order.ensures in
    let all = take_all c.loop-interface.interface-index items (omega arith) ∙ c.deref-interface-items.ensures.value in
    let seen = subst (λ xs. AreDeclaredIn g (attributes_of (map (λ i. i.now) xs)) [] c.loop-interface.gathering) all c.loop-interface.invariant in
    if_ok_then c.infos.result (λ infos is. record {
      lineage = follows.lineage;
      all = follows.all;
      declared = subst (AreDeclaredIn g (attributes_of follows.lineage) []) (sym is) (declared_as g (λ p. sym (follows.same p)) seen);
    }) c.infos.ensures
