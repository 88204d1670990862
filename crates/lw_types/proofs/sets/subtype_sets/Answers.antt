use Rattle.std.proofs.Common.{◌≡◌, ◌∙◌, subst, arith}
use Rattle.lw_types.specs.Sets.{AreSetsOf}
use Rattle.lw_types.proofs.SetLemmas.{none_done, one_done}
use Rattle.lw_types.proofs.sets.subtype_sets.Goals as goal

pub loop-number-init : goal.loop-number-init
loop-number-init c = record {
  all = c.in_ok-sets.ensures.all;
  exact = λ g numbered related. none_done c.args.subtypes.now c.type_count-count.result c.in_ok-sets.sets.items c.in_ok-sets.ensures;
}

pub loop-number-preserved : goal.loop-number-preserved
loop-number-preserved c = record {
  all = c.in_ok-put_type.ensures.all ∙ c.loop-number.invariant.all;
  exact = λ g numbered related.
      one_done c.args.subtypes.now c.type_count-count.result c.loop-number.number c.loop-number.sets.items c.put_type.new.sets.items
      (c.loop-number.invariant.exact g numbered related) (c.in_ok-put_type.ensures.exact g numbered related);
}

pub returns-clause-exact : goal.returns-clause-exact
returns-clause-exact c = λ g numbered related.
    let table = c.args.subtypes.now in
    let sets = c.loop-number.sets.items in
    let over : c.loop-number.number ≡ c.type_count-count.result = omega (arith, c.loop-number-test.false, c.loop-number.auto.number-end) in
    subst (λ n. AreSetsOf table n n sets) c.type_count-count.ensures.count
    (subst (λ n. AreSetsOf table c.type_count-count.result n sets) over (c.loop-number.invariant.exact g numbered related))
