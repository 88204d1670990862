use Rattle.lw_look.specs.Sites.{Value}
use Rattle.lw_lookahead.proofs.WayLemmas.{ways_none, ways_more, ways_all}
use Rattle.lw_lookahead.proofs.points.ways.value_alternatives.Goals as goal

pub loop-value-init : goal.loop-value-init
loop-value-init c =
    let first = c.args.first.now in
    λ kinds are. ways_none first.lexicon.g.now kinds first.k first.heads.now c.args.after.now c.new-ways.result.items c.new-ways.ensures.items

pub loop-value-preserved : goal.loop-value-preserved
loop-value-preserved c =
    let first = c.args.first.now in
    λ kinds are.
    ways_more first.lexicon.g.now kinds first.k first.heads.now c.args.after.now Value c.args.values.now c.loop-value.value-index c.value-item.result c.loop-value.ways.items
    c.in_ok-value_heads.field-0 c.push.new.self.items c.in_ok-push.ensures.items c.loop-value-test.true c.value-item.is (c.loop-value.invariant kinds are)
    (c.in_ok-value_heads.ensures kinds are)

pub returns : goal.returns
returns c =
    let first = c.args.first.now in
    λ kinds are.
    ways_all first.lexicon.g.now kinds first.k first.heads.now c.args.after.now Value c.args.values.now c.loop-value.value-index c.loop-value.ways.items c.loop-value-test.false
    (c.loop-value.invariant kinds are)
