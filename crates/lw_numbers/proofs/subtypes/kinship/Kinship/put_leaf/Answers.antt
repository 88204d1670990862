use Rattle.std.proofs.Common.{refl}
use Rattle.lw_numbers.specs.Parts.{leaf_of}
use Rattle.lw_numbers.specs.KinOf.{kin_of}
use Rattle.lw_numbers.proofs.Placing.{puts_same, room_for}
use Rattle.lw_numbers.proofs.subtypes.kinship.Kinship.put_leaf.Goals as goal

pub put-requires-clause-below : goal.put-requires-clause-below
put-requires-clause-below c =
    let kin = kin_of c.in-Some.below in
    room_for c.args.g.now c.args.self.now c.requires.room (leaf_of c.args.leaf.now) kin ((c.in-Some.ensures kin).1 refl)

pub returns-in_ok-put : goal.returns-in_ok-put
returns-in_ok-put c =
    puts_same (λ from to. (λ edge. ((c.in-Some.ensures from).1 edge.0, edge.1), λ leads. ((c.in-Some.ensures from).0 leads.0, leads.1))) c.in_ok-put.ensures
