use Rattle.std.proofs.Common.{[], ◌∷◌, ◌++◌, ◌+◌, take, sym, ap, ◌∙◌, subst, arith}
use Rattle.std.proofs.lemmas.List.{take_more, take_all}
use Rattle.lw_properties.proofs.Knowing.{KnowsOf, knows_more, knows_all}
use Rattle.lw_properties.proofs.attributes.Attributes.of.Goals as goal

pub loop-interface-preserved : goal.loop-interface-preserved
loop-interface-preserved c =
    let i = c.loop-interface.interface-index in
    let g = c.args.g.now in
    let items = c.as_slice-interface-items.result.now in
    let x = c.interface-item.result in
    let more = knows_more g (take i items) c.loop-interface.attributes c.put.new.self x c.in_ok-firsts.firsts.by_name.entries c.loop-interface.invariant c.in_ok-firsts.ensures c.in_ok-put.ensures in
    subst (λ xs. KnowsOf g xs c.put.new.self) (ap (λ y. take i items ++ y ∷ []) c.interface-item.is ∙ sym (take_more items i x (omega arith))) more

pub returns : goal.returns
returns c =
    let g = c.args.g.now in
    let i = c.loop-interface.interface-index in
    let items = c.as_slice-interface-items.result.now in
    let all = take_all i items (omega arith) ∙ c.as_slice-interface-items.ensures in
    knows_all g c.loop-interface.attributes (subst (λ xs. KnowsOf g xs c.loop-interface.attributes) all c.loop-interface.invariant)
