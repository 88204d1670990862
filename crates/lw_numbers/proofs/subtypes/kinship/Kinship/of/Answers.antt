use Rattle.std.proofs.Common.{sym, subst}
use Rattle.lw_numbers.specs.Spoken.{AreNames}
use Rattle.lw_numbers.proofs.Placing.{room_stays, all_kinship}
use Rattle.lw_numbers.proofs.subtypes.kinship.Kinship.of.Goals as goal

pub put_unions-requires-clause-room : goal.put_unions-requires-clause-room
put_unions-requires-clause-room c = room_stays c.args.g.now c.in_ok-kinship.ensures.room c.in_ok-put_interfaces.ensures

pub put_rules-requires-clause-room : goal.put_rules-requires-clause-room
put_rules-requires-clause-room c =
    room_stays c.args.g.now (room_stays c.args.g.now c.in_ok-kinship.ensures.room c.in_ok-put_interfaces.ensures) c.in_ok-put_unions.ensures

pub returns : goal.returns
returns c =
    let start = c.in_ok-kinship.kinship in
    let made = c.in_ok-kinship.ensures in
    all_kinship c.args.g.now start c.put_rules.new.self (subst (AreNames c.args.g.now) (sym made.names) c.in_ok-names.ensures) made.distinct made.room made.empty
    c.in_ok-put_interfaces.ensures c.in_ok-put_unions.ensures c.in_ok-put_rules.ensures
