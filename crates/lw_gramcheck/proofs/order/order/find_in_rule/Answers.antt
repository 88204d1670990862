use Rattle.std.proofs.Common.{arith, ◌≤◌, length}
use Rattle.lw_grammar.specs.Leaves.{leaves}
use Rattle.lw_numbers.specs.Parts.{leaf_of}
use Rattle.lw_gramcheck.proofs.RuleLemmas.{reads_leaf, as_many, leaf_more, all_leaves}
use Rattle.lw_gramcheck.proofs.order.order.find_in_rule.Goals as goal

pub loop-i-preserved : goal.loop-i-preserved
loop-i-preserved c =
    let rule = c.args.rule.now in
    let i = c.loop-i.i in
    let leaf = c.leaf-item.result in
    let items = c.deref-leaf-items.result.now in
    let there = reads_leaf items c.in_ok-leaves.leaves.items (leaves rule.body) c.deref-leaf-items.ensures.value c.in_ok-leaves.ensures i leaf c.loop-i-test.true c.leaf-item.is in
    λ row in_rows. leaf_more c.args.names.g.now rule (leaves rule.body) row i (leaf_of leaf) c.before-in-loop-i.result.now there (c.before-in-loop-i.ensures row in_rows)
    (c.loop-i.invariant row in_rows) c.in_ok-find_at.ensures

pub returns : goal.returns
returns c =
    let rule = c.args.rule.now in
    let items = c.deref-leaf-items.result.now in
    let many = as_many items c.in_ok-leaves.leaves.items (leaves rule.body) c.deref-leaf-items.ensures.value c.in_ok-leaves.ensures in
    let past : length (leaves rule.body) ≤ c.loop-i.i = omega (arith, many, c.loop-i-test.false) in
    all_leaves c.args.names.g.now c.args.ways.now c.requires.ways c.args.number rule c.requires.rule c.loop-i.i past c.loop-i.invariant
