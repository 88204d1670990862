use Rattle.lw_numbers.specs.Spoken.{UnionSpeaks}
use Rattle.lw_numbers.proofs.Speaking.{extends_more, extends_all}
use Rattle.lw_numbers.proofs.subtypes.names.put_unions.Goals as goal
use Rattle.lw_base.proofs.Lists.{item_at}

pub loop-union-preserved : goal.loop-union-preserved
loop-union-preserved c =
    let items = c.args.unions.now in
    let n = c.loop-union.union-index in
    let x = c.union-item.result in
    extends_more items (λ k union. UnionSpeaks union) n x (item_at items n x c.loop-union-test.true c.union-item.is) c.loop-union.invariant c.in_ok-put_members.ensures

pub returns : goal.returns
returns c = extends_all c.args.unions.now (λ k union. UnionSpeaks union) c.loop-union.union-index c.loop-union-test.false c.loop-union.invariant
