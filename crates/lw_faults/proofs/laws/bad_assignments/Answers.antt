-- One rule assigns the other.
use Rattle.lw_faults.specs.Worked.{place}
use Rattle.lw_faults.proofs.AssignmentsWorked.{flag_by_node, node, flag_by_text, fragment_found}
use Rattle.lw_faults.proofs.laws.bad_assignments.Goals as goal

pub returns : goal.returns
returns c = record {
  flag_by_node = flag_by_node (place 19 23);
  node = node;
  flag_by_text = flag_by_text;
  fragment_ = fragment_found (place 19 22);
}
