use Rattle.std.proofs.Common.{refl}
use Rattle.lw_numbers.specs.KinOf.{kin_of}
use Rattle.lw_numbers.proofs.Placing.{puts_edge}
use Rattle.lw_numbers.proofs.subtypes.kinship.Kinship.put.Goals as goal

pub returns-in_ok-add : goal.returns-in_ok-add
returns-in_ok-add c =
    record {
      names_stay = refl;
      edges_put =
          puts_edge c.args.self.now.names.keys (kin_of c.args.below) (kin_of c.args.above) c.in-Some-Some.from c.in-Some-Some.to c.args.self.now.graph c.add.new.self
          c.in-Some-Some.ensures.0 c.in-Some-Some.ensures'.0 c.in_ok-add.ensures.nodes c.in_ok-add.ensures.edges;
    }
