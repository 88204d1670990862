use Rattle.lw_look.specs.Sites.{Body}
use Rattle.lw_first.specs.Before.{CanBefore}
use Rattle.lw_lookahead.proofs.WayLemmas.{exactly}
use Rattle.lw_lookahead.proofs.points.ways.element_heads.Goals as goal

pub returns : goal.returns
returns c =
    let first = c.args.first.now in
    λ kinds are. exactly (CanBefore first.lexicon.g.now kinds first.k first.heads.now (Body c.args.element.now) c.args.after.now) c.new-heads.result c.element.new.into c.new-heads.ensures
    (c.in_ok-element.ensures kinds are)
