use Rattle.std.proofs.Common.{◌≤◌, length, sym, ◌∙◌, arith}
use Rattle.std.proofs.lemmas.Bool.{false≢true}
use Rattle.lw_tree.specs.declared.node.Reference.{Reference}
use Rattle.lw_build.specs.Standing.{IsChangedName}
use Rattle.lw_build.proofs.Sets.{all_hold, none_yet, one_further}
use Rattle.lw_build.proofs.standing.Standing.is_looked_for.Goals as goal

pub loop-reference-init : goal.loop-reference-init
loop-reference-init c = none_yet (λ (x : Reference). ¬ IsChangedName c.args.self.now x.name) c.args.refs.now

pub loop-reference-preserved : goal.loop-reference-preserved
loop-reference-preserved c =
    one_further (λ (x : Reference). ¬ IsChangedName c.args.self.now x.name) c.args.refs.now c.loop-reference.reference-index c.reference-item.result c.loop-reference-test.true c.reference-item.is
    (λ has. false≢true (sym c.if-contains.false ∙ c.contains.ensures ∙ has)) c.loop-reference.invariant

pub returns : goal.returns
returns c never =
    let past : length c.args.refs.now ≤ c.loop-reference.reference-index = omega arith in
    all_hold (λ (x : Reference). ¬ IsChangedName c.args.self.now x.name) c.args.refs.now c.loop-reference.reference-index past c.loop-reference.invariant
