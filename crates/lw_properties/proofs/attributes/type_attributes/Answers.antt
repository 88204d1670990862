use Rattle.std.proofs.Common.{map, subst}
use Rattle.std.proofs.lemmas.Result.{IfOk-weaker}
use Rattle.lw_properties.specs.Search.{AreFirsts, ServesFor, attributes_of}
use Rattle.lw_properties.proofs.attributes.type_attributes.Goals as goal

pub returns : goal.returns
returns c =
    let g = c.args.g.now in
    let name = c.args.name.now in
    let order = map (λ y. y.now) c.in_ok-order.order.items in
    IfOk-weaker c.first_attributes.result (λ firsts. AreFirsts (attributes_of (map (λ y. y.now) c.as_slice.result.now)) firsts.by_name.entries) (λ firsts. ServesFor g name firsts.by_name.entries)
    (λ firsts are. record {
      order = order;
      follows = c.in_ok-order.ensures;
      are = subst (λ ys. AreFirsts (attributes_of (map (λ y. y.now) ys)) firsts.by_name.entries) c.as_slice.ensures.value are;
    }) c.first_attributes.ensures
