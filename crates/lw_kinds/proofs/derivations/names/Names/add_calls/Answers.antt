use Rattle.std.proofs.Common.{ℕ, List, Contains, map, ap, ◌∙◌}
use Rattle.lw_grammar.specs.Reached.{RuleCalls}
use Rattle.lw_numbers.specs.declared.leaves.body.BodyLeaf.{BodyLeaf}
use Rattle.lw_numbers.specs.Parts.{leaf_of}
use Rattle.lw_kinds.specs.Edges.{IsNamedSo, CallsAtLeaf}
use Rattle.lw_kinds.proofs.EdgeLemmas.{AddsEdges-same, AddsEdges-more, AddsEdges-all}
use Rattle.lw_kinds.proofs.CalledNames.{rule_calls_by}
use Rattle.lw_kinds.proofs.NamedRules.{named_same, named_some}
use Rattle.lw_kinds.proofs.derivations.names.Names.add_calls.Goals as goal

pub loop-leaf-preserved : goal.loop-leaf-preserved
loop-leaf-preserved c =
    let g = c.args.self.now.g.now in
    AddsEdges-more c.args.from (λ x. IsNamedSo g (CallsAtLeaf g (leaf_of x))) c.deref-leaf-items.result.now c.loop-leaf.leaf-index c.leaf-item.result c.loop-leaf-test.true c.leaf-item.is
    c.args.graph.now c.loop-leaf.graph c.add_leaf.new.graph c.loop-leaf.invariant c.in_ok-add_leaf.ensures

pub returns : goal.returns
returns c =
    let g = c.args.self.now.g.now in
    let rule = c.args.rule.now in
    let xs = c.deref-leaf-items.result.now in
    let old = c.args.graph.now in
    let new = c.loop-leaf.graph in
    let are = ap (map leaf_of) c.deref-leaf-items.ensures.value ∙ c.in_ok-leaves.ensures in
    let by_leaves = λ (name : List ℕ). (x : BodyLeaf) × Contains xs x × CallsAtLeaf g (leaf_of x) name in
    AddsEdges-same c.args.from (IsNamedSo g by_leaves) (IsNamedSo g (RuleCalls g rule)) (named_same g by_leaves (RuleCalls g rule) (λ name. rule_calls_by g rule name leaf_of xs are)) old new
    (AddsEdges-same c.args.from (λ b. (x : BodyLeaf) × Contains xs x × IsNamedSo g (CallsAtLeaf g (leaf_of x)) b) (IsNamedSo g by_leaves)
    (named_some g (λ x. CallsAtLeaf g (leaf_of x)) xs) old new
    (AddsEdges-all c.args.from (λ x. IsNamedSo g (CallsAtLeaf g (leaf_of x))) xs c.loop-leaf.leaf-index c.loop-leaf-test.false old new c.loop-leaf.invariant))
