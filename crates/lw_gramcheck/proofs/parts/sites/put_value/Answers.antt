use Rattle.std.proofs.Common.{ap, map, ◌∙◌}
use Rattle.lw_grammar.specs.Leaves.{value_leaves}
use Rattle.lw_numbers.specs.Parts.{value_leaf_of}
use Rattle.lw_faults.proofs.Joining.{Finds-more, Finds-all, Finds-read}
use Rattle.lw_gramcheck.specs.Sites.{how_of, PartCalls}
use Rattle.lw_gramcheck.proofs.parts.sites.put_value.Goals as goal

pub loop-part-preserved : goal.loop-part-preserved
loop-part-preserved c = λ g known.
    Finds-more (λ part. PartCalls g (how_of c.args.manner) (value_leaf_of part)) c.deref-part-items.result.now c.loop-part.part-index c.part-item.result
    c.loop-part-test.true c.part-item.is (c.loop-part.invariant g known) (c.in_ok-put_part.ensures g known)

pub returns : goal.returns
returns c = λ g known.
    let parts = c.deref-part-items.result.now in
    let has = PartCalls g (how_of c.args.manner) in
    Finds-read value_leaf_of has parts (value_leaves c.args.value.now) (ap (map value_leaf_of) c.deref-part-items.ensures.value ∙ c.in_ok-parts.ensures)
    (Finds-all (λ part. has (value_leaf_of part)) parts c.loop-part.part-index c.loop-part-test.false (c.loop-part.invariant g known))
