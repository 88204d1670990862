-- The lineage of each type is written out.
use Rattle.lw_faults.specs.Worked.{place}
use Rattle.lw_faults.proofs.PropertiesWorked.{undeclared, declared, in_extended, in_union, in_endless}
use Rattle.lw_faults.proofs.laws.unknown_properties.Goals as goal

pub returns : goal.returns
returns c = record {
  undeclared = undeclared (place 55 59);
  declared = declared;
  extended = in_extended;
  union_ = in_union (place 67 71);
  endless = in_endless (place 70 74);
}
