use Rattle.std.proofs.Common.{refl}
use Rattle.lw_lookahead.specs.declared.points.point.Point.{Point}
use Rattle.lw_lookahead.specs.Gathering.{site_alone}
use Rattle.lw_lookahead.proofs.PutSteps.{put_gathers, no_memory_gathers}
use Rattle.lw_lookahead.proofs.PointForms.{values_point}
use Rattle.lw_lookahead.proofs.points.walk.Walk.put_values.Goals as goal

pub returns-in_err-ways-clause-gathers : goal.returns-in_err-ways-clause-gathers
returns-in_err-ways-clause-gathers c =
    let first = c.args.self.now.first in
    let old = c.args.gathered.now.points.items in
    λ kinds followers s are at follows.
    no_memory_gathers first.lexicon.g.now kinds first.k first.heads.now followers (site_alone s) old old c.from_residual.result c.from_residual.ensures.1

pub returns-clause-gathers : goal.returns-clause-gathers
returns-clause-gathers c =
    let first = c.args.self.now.first in
    let point : Point = record { file = c.args.self.now.file; span = c.args.span; ways = c.in_ok-ways.ways } in
    λ kinds followers s are at follows.
    put_gathers first.lexicon.g.now kinds first.k first.heads.now followers s point c.args.gathered.now.points.items c.put.new.self.points.items c.put.result
    (values_point first.lexicon.g.now kinds first.k first.heads.now followers s c.args.self.now.file c.args.after.now follows point refl c.put.ensures.distinct at.0 c.args.values.now at.1 (c.in_ok-ways.ensures kinds are)) c.put.ensures.put
