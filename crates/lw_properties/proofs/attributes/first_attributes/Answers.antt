use Rattle.std.proofs.Common.{◌++◌, map, take, ap, ◌∙◌, subst, arith}
use Rattle.lw_properties.specs.Search.{AreFirsts, attributes_of}
use Rattle.lw_properties.proofs.Knowing.{attributes_more}
use Rattle.lw_properties.proofs.attributes.first_attributes.Goals as goal

pub loop-interface-preserved : goal.loop-interface-preserved
loop-interface-preserved c =
    let i = c.loop-interface.interface-index in
    let before = attributes_of (map (λ y. y.now) (take i c.args.order.now)) in
    subst (λ xs. AreFirsts xs c.put_attributes.new.firsts.by_name.entries)
    (ap (λ xs. before ++ xs) c.as_slice.ensures ∙ attributes_more c.args.order.now i c.interface-item.result (omega arith) c.interface-item.is)
    (c.in_ok-put_attributes.ensures before c.loop-interface.invariant)
