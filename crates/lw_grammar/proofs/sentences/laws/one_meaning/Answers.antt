-- The first of a list is one, and of two declarations only one stands before the other.
use Rattle.lw_grammar.specs.Named.{declared_rule, declared_terminal, declared_interface, declared_union}
use Rattle.lw_grammar.proofs.FirstLemmas.{first_place}
use Rattle.lw_grammar.proofs.Meaning.{one_of_two}
use Rattle.lw_grammar.proofs.sentences.laws.one_meaning.Goals as goal

pub returns : goal.returns
returns c = record {
  rule = λ g name r q one other is was. first_place is.first was.first;
  rule_or_terminal = λ g name r t rule terminal is was. one_of_two declared_rule declared_terminal name g.rules g.terminals r t rule terminal is was;
  interface_or_union = λ g name i u interface union is was. one_of_two declared_interface declared_union name g.interfaces g.unions i u interface union is was;
}
