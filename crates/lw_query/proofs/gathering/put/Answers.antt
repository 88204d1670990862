-- A key goes to its place, and an equal one is of the same spot.
use Rattle.std.proofs.Common.{◌≡◌, List, Option, Some, sym, subst}
use Rattle.std.specs.BTreeSet.{insert_key}
use Rattle.lw_query.specs.Gathered.{PutsSpots, SpotKey, key_cmp}
use Rattle.lw_query.specs.declared.spot.Spot.{Spot}
use Rattle.lw_query.proofs.Putting.{puts_key}
use Rattle.lw_query.proofs.gathering.put.Goals as goal

pub returns-in_ok-insert : goal.returns-in_ok-insert
returns-in_ok-insert g c =
    let stands = g.V.Views.Stands c.args.v.now in
    let old = c.args.keys.now.keys in
    let k : SpotKey = (c.in-Some-uri.uri, c.in-Some.spot.span.start, c.in-Some.spot.span.end, c.in-Some.spot.doc.0) in
    let puts = puts_key stands old k c.in-Some-uri.ensures in
    subst (λ (new : List SpotKey). PutsSpots stands (λ s. c.args.spot ≡ Some s) old new) (sym c.in_ok-insert.ensures.keys)
    (subst (λ (o : Option Spot). PutsSpots stands (λ s. o ≡ Some s) old (insert_key key_cmp old k)) (sym c.in-Some.is) puts)
