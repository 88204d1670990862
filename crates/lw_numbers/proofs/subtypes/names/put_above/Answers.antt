use Rattle.std.proofs.Common.{◌≡◌, subst}
use Rattle.lw_numbers.specs.Lists.{SomeAt}
use Rattle.lw_numbers.specs.Spoken.{ExtendsBy}
use Rattle.lw_numbers.proofs.Speaking.{extends_more, extends_all}
use Rattle.lw_numbers.proofs.subtypes.names.put_above.Goals as goal
use Rattle.lw_base.proofs.Lists.{item_at}

pub loop-name-preserved : goal.loop-name-preserved
loop-name-preserved c =
    let items = c.as_slice-name-items.result.now in
    let n = c.loop-name.name-index in
    let x = c.loop-name-item.result in
    extends_more items (λ k above name. name ≡ above.0) n x (item_at items n x c.loop-name-test.true c.loop-name-item.is) c.loop-name.invariant c.in_ok-put.ensures

pub returns : goal.returns
returns c =
    let items = c.as_slice-name-items.result.now in
    subst (λ xs. ExtendsBy (λ name. SomeAt xs (λ k above. name ≡ above.0)) c.args.names.now.keys c.loop-name.names.keys) c.as_slice-name-items.ensures
    (extends_all items (λ k above name. name ≡ above.0) c.loop-name.name-index c.loop-name-test.false c.loop-name.invariant)
