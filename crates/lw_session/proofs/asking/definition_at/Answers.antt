use Rattle.lw_conversation.specs.Asking as tell
use Rattle.lw_session.proofs.Asked.{none_held, spot_of_definition, stands_asked, tells_definition, tells_no_definition}
use Rattle.lw_session.proofs.asking.definition_at.Goals as goal

pub returns-in_default : goal.returns-in_default
returns-in_default c = tell.not_held (none_held c.args.workspace.now c.args.address.now c.in_default.ensures)

pub location_of-requires : goal.location_of-requires
location_of-requires c =
    let v = c.args.workspace.now in
    let seen = c.seen-seen.result in
    let (trees, are_trees, views) = c.seen-seen.ensures.views in
    let stands = stands_asked v seen c.seen-seen.ensures.kept c.args.address.now c.args.at c.in-Some.asked c.in-Some.ensures in
    let (m, there, found) = c.in-Some-definition.ensures v.setting trees c.args.address.now views stands in
    spot_of_definition v seen c.seen-seen.ensures.kept trees are_trees views c.args.address.now c.args.at c.in-Some.asked c.in-Some.ensures
    c.in-Some-definition.spot m there found

pub returns-in_ok-location_of-in-Some-definition : goal.returns-in_ok-location_of-in-Some-definition
returns-in_ok-location_of-in-Some-definition c =
    let v = c.args.workspace.now in
    let seen = c.seen-seen.result in
    let (trees, are_trees, views) = c.seen-seen.ensures.views in
    let stands = stands_asked v seen c.seen-seen.ensures.kept c.args.address.now c.args.at c.in-Some.asked c.in-Some.ensures in
    let (m, there, found) = c.in-Some-definition.ensures v.setting trees c.args.address.now views stands in
    tells_definition v seen c.seen-seen.ensures.kept trees are_trees views c.args.address.now c.args.at c.in-Some.asked c.in-Some.ensures
    c.in-Some-definition.spot m c.in_ok-location_of-in-Some-definition.field-0 there found c.in_ok-location_of-in-Some-definition.ensures

pub returns-in-None : goal.returns-in-None
returns-in-None c =
    let v = c.args.workspace.now in
    let seen = c.seen-seen.result in
    let (trees, are_trees, views) = c.seen-seen.ensures.views in
    let stands = stands_asked v seen c.seen-seen.ensures.kept c.args.address.now c.args.at c.in-Some.asked c.in-Some.ensures in
    tells_no_definition v seen c.seen-seen.ensures.kept trees are_trees views c.args.address.now c.args.at c.in-Some.asked c.in-Some.ensures
    (c.in-None.ensures v.setting trees c.args.address.now views stands)
