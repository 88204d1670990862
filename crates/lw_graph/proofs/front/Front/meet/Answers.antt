use Rattle.std.proofs.Common.{true, false, refl, sym, ◌∙◌}
use Rattle.std.specs.Vec.{with_item}
use Rattle.std.proofs.lemmas.List.{get_or_read}
use Rattle.lw_graph.proofs.Growing.{Gains-had, Gains-new}
use Rattle.lw_graph.proofs.front.Front.meet.Goals as goal

pub returns-in_ok-push : goal.returns-in_ok-push
returns-in_ok-push c =
    let old = c.args.self.now in
    Gains-new c.args.node old (record { met = with_item old.met c.args.node true; waiting = c.push.new.self }) c.requires
    (sym (get_or_read old.met.items c.args.node c.index.result.now c.requires c.index.ensures false) ∙ c.if-not-index.true) refl c.in_ok-push.ensures.items

pub returns-else-not-index : goal.returns-else-not-index
returns-else-not-index c =
    let old = c.args.self.now in
    Gains-had c.args.node old (sym (get_or_read old.met.items c.args.node c.index.result.now c.requires c.index.ensures false) ∙ c.if-not-index.false)
