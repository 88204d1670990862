-- The names that reached rules call are three.
use Rattle.lw_grammar.proofs.DottedWorked.{qname_reached, unused_not_reached, int_no_kind, its_kinds, id_kind, int_kind_none, its_text, no_fifth_text}
use Rattle.lw_grammar.proofs.sentences.laws.kinds_of_reached_rules.Goals as goal

pub returns : goal.returns
returns c = record {
  reached = qname_reached;
  not_reached = unused_not_reached;
  no_kind = int_no_kind;
  kinds = its_kinds;
  number = id_kind;
  no_number = int_kind_none;
  told = its_text;
  none_told = no_fifth_text;
}
