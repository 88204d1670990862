use Rattle.std.proofs.Common.{◌<◌, All, Contains, false, get_or, length, refl, sym, ◌∙◌, subst, arith}
use Rattle.std.proofs.lemmas.List.{get_or_read, take_all}
use Rattle.std.proofs.lemmas.List.Elements.{All-more, All-contains}
use Rattle.lw_graph.specs.Walks.{HasNode}
use Rattle.lw_graph.proofs.graph.Graph.is_ended.Goals as goal

pub loop-next-preserved : goal.loop-next-preserved
loop-next-preserved c =
    let flags = c.args.front.now.met.items in
    let nodes = c.successors-next-items.result.now in
    let i = c.loop-next.next-index in
    let inside : get_or nodes i 0 < length flags = omega (arith, c.successors-next-items.ensures.within i 0 c.loop-next-test.true, c.requires.front) in
    All-more (HasNode flags) nodes i 0 c.loop-next-test.true c.loop-next.invariant
    (sym (get_or_read flags (get_or nodes i 0) c.index.result.now inside c.index.ensures false) ∙ c.if-not-index.false)

pub returns : goal.returns
returns c =
    let flags = c.args.front.now.met.items in
    let nodes = c.successors-next-items.result.now in
    let all = subst (All (HasNode flags)) (take_all c.loop-next.next-index nodes c.loop-next-test.false) c.loop-next.invariant in
    (λ _ next edge. All-contains (HasNode flags) nodes next all (subst (λ ns. Contains ns next) (sym c.successors-next-items.ensures.edges) edge), λ _. refl)
