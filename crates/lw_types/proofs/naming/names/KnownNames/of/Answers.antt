use Rattle.std.proofs.Common.{map, ap, ◌∙◌}
use Rattle.lw_faults.proofs.Joining.{Finds-read}
use Rattle.lw_types.specs.NameUses.{use_of, uses}
use Rattle.lw_types.specs.Wrong.{InfersName}
use Rattle.lw_types.proofs.Said.{inferred_known}
use Rattle.lw_types.proofs.naming.names.KnownNames.of.Goals as goal

pub returns-clause-knows : goal.returns-clause-knows
returns-clause-knows c =
    let g = c.args.g.now in
    record {
      numbered = c.requires.numbered;
      ruled = c.requires.ruled;
      written = c.in_ok-mentions.ensures;
      inferred =
          inferred_known g c.in_ok-inferred.inferred.keys
          (Finds-read use_of InfersName c.as_slice.result.now (uses g) (ap (map use_of) c.as_slice.ensures.value ∙ c.in_ok-mentions.ensures)
          c.in_ok-inferred.ensures);
    }
