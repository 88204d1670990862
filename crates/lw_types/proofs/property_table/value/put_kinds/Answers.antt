use Rattle.std.proofs.Common.{◌+◌, ◌∷◌, ◌++◌, [], take, sym, ap, ◌∙◌, subst}
use Rattle.std.proofs.lemmas.List.{take_more}
use Rattle.indexmap.specs.IndexSet.{insert_key}
use Rattle.lw_types.specs.contracts.property_table.value.ValuePartialEq.TheImpl.{eq-value}
use Rattle.lw_types.specs.Gathered.{value_kinds, JoinsValues}
use Rattle.lw_types.proofs.Firsts.{joins_none}
use Rattle.lw_types.proofs.InSets.{kinds_put}
use Rattle.lw_types.proofs.property_table.value.put_kinds.Goals as goal

pub loop-kind-init : goal.loop-kind-init
loop-kind-init c = joins_none (value_kinds c.args.set.now.keys)

pub loop-kind-preserved : goal.loop-kind-preserved
loop-kind-preserved c =
    let i = c.loop-kind.kind-index in
    let all = c.args.kinds.now in
    let old = value_kinds c.args.set.now.keys in
    let values = c.loop-kind.set.keys in
    let v = c.of.result in
    let longer = take_more all i _ c.loop-kind-test.true ∙ ap (λ y. take i all ++ y ∷ []) (sym c.of.ensures) in
    subst (λ keys. JoinsValues old (take (i + 1) all) (value_kinds keys)) (sym c.in_ok-insert.ensures.keys)
    (subst (λ xs. JoinsValues old xs (value_kinds (insert_key (eq-value).it values v))) (sym longer) (kinds_put values v c.loop-kind.invariant))
