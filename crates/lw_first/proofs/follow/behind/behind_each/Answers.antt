use Rattle.std.proofs.Common.{sym, subst}
use Rattle.lw_first.specs.Followed.{AreBehind}
use Rattle.lw_first.proofs.follow.behind.behind_each.Goals as goal

pub returns : goal.returns
returns c kinds are =
    let first = c.args.first.now in
    subst (AreBehind first.lexicon.g.now kinds first.k first.heads.now c.args.parts.now c.args.after.now) (sym c.reverse.ensures.items) (c.in_ok-sets.ensures kinds are)
