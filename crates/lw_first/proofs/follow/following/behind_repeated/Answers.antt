use Rattle.std.proofs.Common.{subst}
use Rattle.lw_first.specs.Sets.{AddsHeads}
use Rattle.lw_first.proofs.HeadLemmas.{adds_to_none}
use Rattle.lw_first.specs.Before.{ManyCanBefore}
use Rattle.lw_first.proofs.follow.following.behind_repeated.Goals as goal

pub returns : goal.returns
returns c kinds are =
    let first = c.args.first.now in
    let new = c.repeated.new.into in
    let can = ManyCanBefore first.lexicon.g.now kinds first.k first.heads.now c.args.part.now c.args.after.now in
    adds_to_none {P = can} new (subst (λ old. AddsHeads can old new) c.new-set.ensures (c.in_ok-repeated.ensures kinds are))
