use Rattle.std.proofs.Common.{subst}
use Rattle.lw_look.specs.Sites.{Body}
use Rattle.lw_first.specs.Sets.{AddsHeads}
use Rattle.lw_first.proofs.HeadLemmas.{adds_to_none}
use Rattle.lw_first.specs.Before.{CanBefore}
use Rattle.lw_first.proofs.follow.behind.before.Goals as goal

pub returns : goal.returns
returns c kinds are =
    let first = c.args.first.now in
    let new = c.element.new.into in
    let can = CanBefore first.lexicon.g.now kinds first.k first.heads.now (Body c.args.part.now) c.args.after.now in
    adds_to_none {P = can} new (subst (λ old. AddsHeads can old new) c.new-set.ensures (c.in_ok-element.ensures kinds are))
