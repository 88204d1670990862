use Rattle.std.proofs.Common.{length, refl, arith}
use Rattle.std.proofs.lemmas.Option.{slice_get_read, slice_get_within}
use Rattle.lw_rename.specs.Targets.{nowhere}
use Rattle.lw_rename.proofs.Listing.{at_place_of, is_among}
use Rattle.lw_rename.proofs.Meant.{is_address, is_other_address, meant_there, not_here_more}
use Rattle.lw_rename.proofs.meaning.meant.Goals as goal

pub returns-then-eq : goal.returns-then-eq
returns-then-eq c =
    let views = c.args.views.now in
    let i = c.looking.view-index in
    let v = c.view-item.result in
    let at = slice_get_read views (length views) i v refl c.looking-test.true c.view-item.is in
    meant_there views c.args.uri.now c.args.off v (is_among views i v at) (is_address c.if-eq.ensures) c.meant_in.result c.meant_in.ensures

pub looking-preserved : goal.looking-preserved
looking-preserved c =
    let views = c.args.views.now in
    let i = c.looking.view-index in
    let v = c.view-item.result in
    let at = slice_get_read views (length views) i v refl c.looking-test.true c.view-item.is in
    not_here_more views c.args.uri.now i v at (is_other_address c.if-eq.ensures) c.looking.invariant

pub returns : goal.returns
returns c =
    let views = c.args.views.now in
    nowhere (λ v has.
    let found = at_place_of views v has in
    let inside = slice_get_within views found.0 v found.1 in
    c.looking.invariant found.0 v (omega (arith, inside)) found.1)
