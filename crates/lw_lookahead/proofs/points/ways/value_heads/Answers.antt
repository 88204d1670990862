use Rattle.lw_look.specs.Sites.{Value}
use Rattle.lw_first.specs.Before.{CanBefore}
use Rattle.lw_lookahead.proofs.WayLemmas.{exactly}
use Rattle.lw_lookahead.proofs.points.ways.value_heads.Goals as goal

pub returns : goal.returns
returns c =
    let first = c.args.first.now in
    λ kinds are. exactly (CanBefore first.lexicon.g.now kinds first.k first.heads.now (Value c.args.value.now) c.args.after.now) c.new-heads.result c.value.new.into c.new-heads.ensures
    (c.in_ok-value.ensures kinds are)
