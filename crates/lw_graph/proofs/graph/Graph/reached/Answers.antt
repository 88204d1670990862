use Rattle.std.proofs.Common.{◌<◌, All, false, length, refl, sym, ap, ◌∙◌, subst, arith}
use Rattle.std.proofs.lemmas.List.{length-replicate, nil_from_length}
use Rattle.lw_graph.specs.declared.front.Front.{Front}
use Rattle.lw_graph.specs.Growth.{Gains}
use Rattle.lw_graph.specs.Walks.{HasNode}
use Rattle.lw_graph.proofs.Flags.{node_within, no_nodes}
use Rattle.lw_graph.proofs.Growing.{Pops, popped_met, popped_is_fewer}
use Rattle.lw_graph.proofs.Spreading.{spreading_begins, spreading_goes_on, spreading_ends}
use Rattle.lw_graph.proofs.graph.Graph.reached.Goals as goal

pub reaching-init : goal.reaching-init
reaching-init c =
    let none = c.in_ok-front.front in
    spreading_begins c.args.self.now c.args.starts.now none c.meet_all.new.self (ap length c.in_ok-front.ensures.met ∙ length-replicate c.nodes.result false ∙ c.nodes.ensures.count)
    (λ n has. no_nodes c.nodes.result n (subst (λ flags. HasNode flags n) c.in_ok-front.ensures.met has)) c.in_ok-front.ensures.waiting c.in_ok-meet_all.ensures

pub successors-requires : goal.successors-requires
successors-requires c =
    let old = c.reaching.front in
    let mid : Front = record old { waiting = c.pop.new.self } in
    let pops : Pops c.in-Some.node old mid = record { met = refl; waiting = c.in-Some.ensures.items } in
    let met = node_within old.met.items c.in-Some.node (popped_met c.in-Some.node old mid pops c.reaching.invariant.waiting) in
    omega (arith, met, c.reaching.invariant.size)

pub meet_all-requires-in-Some : goal.meet_all-requires-in-Some
meet_all-requires-in-Some c = subst (λ n. All (λ next. next < n) c.successors.result.now) (sym c.reaching.invariant.size) c.successors.ensures.within

pub reaching-preserved : goal.reaching-preserved
reaching-preserved c =
    let old = c.reaching.front in
    let mid : Front = record old { waiting = c.pop.new.self } in
    let pops : Pops c.in-Some.node old mid = record { met = refl; waiting = c.in-Some.ensures.items } in
    spreading_goes_on c.args.self.now c.args.starts.now c.in-Some.node old mid c.meet_all-in-Some.new.self c.reaching.invariant pops
    (subst (λ ns. Gains ns mid c.meet_all-in-Some.new.self) c.successors.ensures.edges c.in_ok-meet_all-2.ensures)

pub reaching-smaller : goal.reaching-smaller
reaching-smaller c =
    let old = c.reaching.front in
    let mid : Front = record old { waiting = c.pop.new.self } in
    let pops : Pops c.in-Some.node old mid = record { met = refl; waiting = c.in-Some.ensures.items } in
    popped_is_fewer c.in-Some.node old mid c.meet_all-in-Some.new.self pops c.in_ok-meet_all-2.ensures.left

pub returns : goal.returns
returns c =
    let front = c.reaching.front in
    let over = nil_from_length front.waiting.items (omega (arith, c.in_default.ensures.cases.0, front.waiting.ok.0)) in
    spreading_ends c.args.self.now c.args.starts.now front c.reaching.invariant over
