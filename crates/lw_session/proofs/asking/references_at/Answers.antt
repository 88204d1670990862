use Rattle.std.proofs.Common.{List, All, sym, subst}
use Rattle.std.specs.List.{AllZip}
use Rattle.std.proofs.lemmas.Option.{MatchOption-at_none, MatchOption-at_some}
use Rattle.lw_conversation.specs.Asking as tell
use Rattle.lw_query.specs.declared.spot.Spot.{Spot}
use Rattle.lw_session.specs.Locating.{IsLocated, IsSpotOf}
use Rattle.lw_session.proofs.Asked.{none_held, spots_of_references, stands_asked, tells_no_references, tells_references}
use Rattle.lw_session.proofs.asking.references_at.Goals as goal

pub returns-in_default : goal.returns-in_default
returns-in_default c = tell.not_held (none_held c.args.workspace.now c.args.address.now c.in_default.ensures)

pub locations_of-requires : goal.locations_of-requires
locations_of-requires c =
    let v = c.args.workspace.now in
    let seen = c.seen-seen.result in
    let (trees, are_trees, views) = c.seen-seen.ensures.views in
    let stands = stands_asked v seen c.seen-seen.ensures.kept c.args.address.now c.args.at c.in-Some.asked c.in-Some.ensures in
    let (mentions, there, found) = MatchOption-at_some _ _ c.in-Some-2.spots c.in-Some-2.is
    (c.in_ok-spots.ensures v.setting trees c.args.address.now views c.refs.ensures stands) in
    subst (All (IsSpotOf seen)) (sym c.as_slice.ensures)
    (spots_of_references v seen c.seen-seen.ensures.kept trees are_trees views c.args.address.now c.args.at c.in-Some.asked c.in-Some.ensures c.args.declaration
    c.in-Some-2.spots mentions there found)

pub returns-in_ok-locations_of-in-Some-2 : goal.returns-in_ok-locations_of-in-Some-2
returns-in_ok-locations_of-in-Some-2 c =
    let v = c.args.workspace.now in
    let seen = c.seen-seen.result in
    let (trees, are_trees, views) = c.seen-seen.ensures.views in
    let stands = stands_asked v seen c.seen-seen.ensures.kept c.args.address.now c.args.at c.in-Some.asked c.in-Some.ensures in
    let (mentions, there, found) = MatchOption-at_some _ _ c.in-Some-2.spots c.in-Some-2.is
    (c.in_ok-spots.ensures v.setting trees c.args.address.now views c.refs.ensures stands) in
    tells_references v seen c.seen-seen.ensures.kept trees are_trees views c.args.address.now c.args.at c.in-Some.asked c.in-Some.ensures c.args.declaration
    c.in-Some-2.spots mentions c.in_ok-locations_of-in-Some-2.field-0 there found
    (subst (λ (spots : List Spot). AllZip (IsLocated seen) spots c.in_ok-locations_of-in-Some-2.field-0) c.as_slice.ensures
    c.in_ok-locations_of-in-Some-2.ensures)

pub returns-in-None : goal.returns-in-None
returns-in-None c =
    let v = c.args.workspace.now in
    let seen = c.seen-seen.result in
    let (trees, are_trees, views) = c.seen-seen.ensures.views in
    let stands = stands_asked v seen c.seen-seen.ensures.kept c.args.address.now c.args.at c.in-Some.asked c.in-Some.ensures in
    tells_no_references v seen c.seen-seen.ensures.kept trees are_trees views c.args.address.now c.args.at c.in-Some.asked c.in-Some.ensures c.args.declaration
    (MatchOption-at_none _ _ c.in-None.is (c.in_ok-spots.ensures v.setting trees c.args.address.now views c.refs.ensures stands))
