use Rattle.lw_first.specs.Before.{ManyCanBefore}
use Rattle.lw_lookahead.proofs.WayLemmas.{exactly}
use Rattle.lw_lookahead.proofs.points.ways.repeated_heads.Goals as goal

pub returns : goal.returns
returns c =
    let first = c.args.first.now in
    λ kinds are. exactly (ManyCanBefore first.lexicon.g.now kinds first.k first.heads.now c.args.part.now c.args.after.now) c.new-heads.result c.repeated.new.into c.new-heads.ensures
    (c.in_ok-repeated.ensures kinds are)
