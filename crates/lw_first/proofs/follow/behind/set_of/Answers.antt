use Rattle.std.proofs.Common.{subst}
use Rattle.lw_first.specs.Sets.{AddsHeads, IsAmongHeads}
use Rattle.lw_first.proofs.HeadLemmas.{adds_to_none}
use Rattle.lw_first.proofs.follow.behind.set_of.Goals as goal

pub returns : goal.returns
returns c =
    let new = c.insert_all.new.self in
    let among = IsAmongHeads c.args.heads.now in
    adds_to_none {P = among} new (subst (λ old. AddsHeads among old new) c.new-set.ensures c.in_ok-insert_all.ensures.adds)
