-- One way more.
use Rattle.std.proofs.Common.{inl, sym, subst, arith}
use Rattle.lw_viable.specs.Growing.{ArePut}
use Rattle.lw_viable.proofs.Made.{grows_on}
use Rattle.lw_viable.proofs.Putting.{put_on, ways_last}
use Rattle.lw_viable.proofs.lists.Lists.put_ways.Goals as goal

pub loop-place-preserved : goal.loop-place-preserved
loop-place-preserved c =
    record {
      below = inl (omega arith);
      grows = grows_on c.loop-place.invariant.grows c.put.ensures.grows;
      put =
          subst (λ ways. ArePut ways c.args.self.now c.put.new.self c.args.front c.args.fronts.now.items c.put.new.fronts.items)
          (sym (ways_last c.args.first c.loop-place.place c.loop-place.auto.place))
          (put_on c.loop-place.invariant.grows c.put.ensures.grows c.requires c.loop-place.invariant.put c.in_ok-put.ensures.put);
    }
