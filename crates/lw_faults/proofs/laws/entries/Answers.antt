-- The rules are written out.
use Rattle.lw_faults.proofs.EntriesWorked.{none, imported, one, two, one_imported, text, fragment_found, node}
use Rattle.lw_faults.proofs.laws.entries.Goals as goal

pub returns : goal.returns
returns c = record {
  none = none;
  imported = imported;
  one = one;
  two = two;
  one_imported = one_imported;
  text = text;
  fragment_ = fragment_found;
  node = node;
}
