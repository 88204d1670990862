use Rattle.std.proofs.Common.{arith}
use Rattle.lw_types.specs.NameUses.{union_uses}
use Rattle.lw_types.proofs.Reading.{put_more}
use Rattle.lw_types.proofs.naming.mentions.put_unions.Goals as goal

pub loop-union-preserved : goal.loop-union-preserved
loop-union-preserved c =
    put_more _ _ union_uses _ c.args.unions.now c.loop-union.union-index c.union-item.result (omega arith) c.union-item.is c.loop-union.invariant
    c.in_ok-put_union.ensures
