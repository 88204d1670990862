use Rattle.std.proofs.Common.{ap}
use Rattle.std.specs.Option.{option_map}
use Rattle.lw_rename.proofs.Lent.{all_named, in_all}
use Rattle.lw_rename.proofs.mentions.spans_in.Goals as goal

pub returns : goal.returns
returns c =
    let v = c.args.view.now in
    let tree = c.in-Some.tree.now in
    let seen = ap (option_map (λ t. t.now)) c.in-Some.is in
    let found = c.in_ok-found.found.items in
    in_all c.args.target v tree seen found c.in_ok-found.ensures c.in_ok-keys.keys.items c.in_order.result
    (all_named c.args.target v tree seen found c.in_ok-found.ensures c.in_ok-keys.keys.items c.name_of.result c.in_ok-keys.ensures c.name_of.ensures)
    c.in_order.ensures.exact c.in_order.ensures.ordered
