use Rattle.std.proofs.Common.{List, map, subst, sym}
use Rattle.lw_index.specs.declared.parts.Answer.{Answer}
use Rattle.lw_index.specs.declared.refs.uses.Use.{Use}
use Rattle.lw_index.specs.Uses.{AreUses}
use Rattle.lw_index.proofs.Gathering.{slot_of, none_added, one_added, all_added, users_in}
use Rattle.lw_index.proofs.refs.leads.Leads.add_users.Goals as goal

pub loop-found-init : goal.loop-found-init
loop-found-init c = none_added (slot_of c.args.user) c.args.slots.now.items c.uses_at-found-items.result.now

pub loop-found-preserved : goal.loop-found-preserved
loop-found-preserved c = one_added (slot_of c.args.user) c.args.slots.now.items c.uses_at-found-items.result.now c.loop-found.slots.items c.push.new.self.items c.loop-found.found-index _
    c.loop-found-test.true c.loop-found.invariant c.in_ok-push.ensures.items

pub returns : goal.returns
returns c =
    let uses = c.as_slice.result.now in
    let are_inside : AreUses c.self.inside.answers.items uses = subst (λ (list : List Use). AreUses c.self.inside.answers.items list) (sym c.as_slice.ensures.value) c.self.invariant in
    let are : AreUses c.args.self.now uses = subst (λ (list : List Answer). AreUses list uses) c.self.view_is are_inside in
    let found = c.uses_at-found-items.result.now in (
      map (slot_of c.args.user) found,
      all_added (slot_of c.args.user) c.args.slots.now.items found c.loop-found.slots.items c.loop-found.found-index c.loop-found-test.false c.loop-found.invariant,
      users_in c.args.self.now uses are c.args.user c.args.target found c.uses_at-found-items.ensures.exact c.uses_at-found-items.ensures.ordered,
    )
