use Rattle.std.proofs.Common.{◌++◌, map, reverse, ap, ◌∙◌}
use Rattle.std.proofs.lemmas.Iterator.Adapters.{YieldsList-from_rev_slice}
use Rattle.std.proofs.lemmas.Iterator.Consumers.{YieldsList-end}
use Rattle.lw_properties.proofs.Stacks.{top_first}
use Rattle.lw_types.proofs.Giving.{all_itself}
use Rattle.lw_types.proofs.property_table.members.put_members.Goals as goal

pub returns : goal.returns
returns c =
    let members = c.args.members.now in
    let olds = map (λ m. m.now) c.args.waiting.now.items in
    let all = YieldsList-end (YieldsList-from_rev_slice members cc) c.loop-member.yielded _ c.loop-member.yielded_by _ _ c.in-None.is c.next.ensures.steps in
    top_first (λ m. m.now) (λ m. m) c.loop-member.yielded members olds (map (λ m. m.now) c.loop-member.waiting.items) all.0 c.loop-member.invariant
    ∙ ap (λ ms. ms ++ reverse olds) (all_itself members)
