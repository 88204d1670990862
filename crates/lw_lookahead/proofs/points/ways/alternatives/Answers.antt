use Rattle.lw_look.specs.Sites.{Body}
use Rattle.lw_lookahead.proofs.WayLemmas.{ways_none, ways_more, ways_all}
use Rattle.lw_lookahead.proofs.points.ways.alternatives.Goals as goal

pub loop-part-init : goal.loop-part-init
loop-part-init c =
    let first = c.args.first.now in
    λ kinds are. ways_none first.lexicon.g.now kinds first.k first.heads.now c.args.after.now c.new-ways.result.items c.new-ways.ensures.items

pub loop-part-preserved : goal.loop-part-preserved
loop-part-preserved c =
    let first = c.args.first.now in
    λ kinds are.
    ways_more first.lexicon.g.now kinds first.k first.heads.now c.args.after.now Body c.args.parts.now c.loop-part.part-index c.part-item.result c.loop-part.ways.items
    c.in_ok-element_heads.field-0 c.push.new.self.items c.in_ok-push.ensures.items c.loop-part-test.true c.part-item.is (c.loop-part.invariant kinds are)
    (c.in_ok-element_heads.ensures kinds are)

pub returns : goal.returns
returns c =
    let first = c.args.first.now in
    λ kinds are.
    ways_all first.lexicon.g.now kinds first.k first.heads.now c.args.after.now Body c.args.parts.now c.loop-part.part-index c.loop-part.ways.items c.loop-part-test.false
    (c.loop-part.invariant kinds are)
