-- Each value has one kind.
use Rattle.lw_faults.specs.Worked.{place}
use Rattle.lw_faults.proofs.PropertiesWorked.{one_into_list, added_to_list, added_to_one, one, flag_into_text, flag, text_for_reference, reference_for_text, reference}
use Rattle.lw_faults.proofs.laws.property_forms.Goals as goal

pub returns : goal.returns
returns c = record {
  one_into_list = one_into_list (place 57 61);
  added_to_list = added_to_list;
  added_to_one = added_to_one (place 55 60);
  one = one;
  flag_into_text = flag_into_text (place 55 61);
  flag = flag;
  text_for_reference = text_for_reference (place 51 55);
  reference_for_text = reference_for_text (place 55 63);
  reference = reference;
}
