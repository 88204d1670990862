use Rattle.std.proofs.Common.{◌++◌, subst}
use Rattle.std.proofs.lemmas.List.{take_all}
use Rattle.lw_lookahead.specs.Entries.{of_way}
use Rattle.lw_lookahead.specs.Gathered.{AreGatheredWays}
use Rattle.lw_lookahead.proofs.GatherSteps.{gathers_next, gathers_none}
use Rattle.lw_lookahead.proofs.entries.Entries.put_way.Goals as goal

pub loop-head-init : goal.loop-head-init
loop-head-init c pairs gathered up_to = gathers_none c.args.way c.args.heads.now pairs c.args.self.now gathered up_to

pub loop-head-preserved : goal.loop-head-preserved
loop-head-preserved c pairs gathered up_to =
    gathers_next c.args.way c.args.heads.now pairs c.loop-head.self c.put.new.self c.loop-head.head-index _ c.loop-head-test.true
    (c.loop-head.invariant pairs gathered up_to) c.in_ok-put.ensures

pub returns : goal.returns
returns c pairs gathered up_to =
    subst (λ heads. AreGatheredWays (pairs ++ of_way c.args.way heads) c.loop-head.self) (take_all c.loop-head.head-index c.args.heads.now c.loop-head-test.false)
    (c.loop-head.invariant pairs gathered up_to).0
