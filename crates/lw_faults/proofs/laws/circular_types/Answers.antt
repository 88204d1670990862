-- What each type extends, or has as a member, is written out.
use Rattle.lw_faults.proofs.CircularTypesWorked.{itself, first_of_two, second_of_two, other, union_itself, references, no_interface, member_extends, unknown}
use Rattle.lw_faults.proofs.laws.circular_types.Goals as goal

pub returns : goal.returns
returns c = record {
  itself = itself;
  first_of_two = first_of_two;
  second_of_two = second_of_two;
  other = other;
  union_ = union_itself;
  references = references;
  no_interface = no_interface;
  member_extends = member_extends;
  unknown = unknown;
}
