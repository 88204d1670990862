-- A data type rule has keywords and calls of terminals alone.
use Rattle.lw_grammar.proofs.DottedWorked.{qname_is_text, marked_makes_nodes, root_no_text}
use Rattle.lw_grammar.proofs.sentences.laws.data_type_rules.Goals as goal

pub returns : goal.returns
returns c = record {
  text = qname_is_text;
  nodes = marked_makes_nodes;
  no_nodes = qname_is_text.1;
  no_text = root_no_text;
}
