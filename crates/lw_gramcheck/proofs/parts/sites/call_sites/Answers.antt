use Rattle.std.proofs.Common.{ap, map, ◌∙◌}
use Rattle.lw_grammar.specs.Leaves.{leaves}
use Rattle.lw_numbers.specs.Parts.{leaf_of}
use Rattle.lw_faults.proofs.Joining.{Finds-more, Finds-all, Finds-read}
use Rattle.lw_gramcheck.specs.Sites.{LeafSites}
use Rattle.lw_gramcheck.proofs.parts.sites.call_sites.Goals as goal

pub loop-leaf-preserved : goal.loop-leaf-preserved
loop-leaf-preserved c = λ g known.
    Finds-more (λ leaf. LeafSites g (leaf_of leaf)) c.deref-leaf-items.result.now c.loop-leaf.leaf-index c.leaf-item.result c.loop-leaf-test.true c.leaf-item.is
    (c.loop-leaf.invariant g known) (c.in_ok-put_leaf.ensures g known)

pub returns : goal.returns
returns c = λ g known.
    let found = c.deref-leaf-items.result.now in
    Finds-read leaf_of (LeafSites g) found (leaves c.args.rule.now.body) (ap (map leaf_of) c.deref-leaf-items.ensures.value ∙ c.in_ok-leaves.ensures)
    (Finds-all (λ leaf. LeafSites g (leaf_of leaf)) found c.loop-leaf.leaf-index c.loop-leaf-test.false (c.loop-leaf.invariant g known))
