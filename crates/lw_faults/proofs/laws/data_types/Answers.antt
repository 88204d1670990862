-- The rule is one, and says one thing of its type.
use Rattle.lw_faults.proofs.DataTypesWorked.{nodes_as_text, text, inferred, inferred_node, nodes_by_union, texts_by_union}
use Rattle.lw_faults.proofs.laws.data_types.Goals as goal

pub returns : goal.returns
returns c = record {
  nodes_as_text = nodes_as_text;
  text = text;
  inferred = inferred;
  inferred_node = inferred_node;
  nodes_by_union = nodes_by_union;
  texts_by_union = texts_by_union;
}
