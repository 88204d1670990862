-- Each list is written out.
use Rattle.std.proofs.Common.{codes, refl}
use Rattle.lw_grammar.specs.Subtypes.{same}
use Rattle.lw_grammar.specs.Worked.{by_id}
use Rattle.lw_grammar.proofs.Every.{differ}
use Rattle.lw_grammar.proofs.StatesWorked.{state_named, no_terminal_state, id_named, no_rule_id, model_entry, state_no_entry, undeclared, below_same, its_size}
use Rattle.lw_grammar.proofs.sentences.laws.names_of_states.Goals as goal

pub returns : goal.returns
returns c = record {
  rule = state_named by_id;
  no_terminal = no_terminal_state by_id;
  terminal = id_named by_id;
  no_rule = no_rule_id by_id;
  entry = model_entry by_id;
  no_entry = state_no_entry by_id;
  type_ = (refl, refl);
  other_type = λ is. differ (codes "Model") (codes "State") refl is.1;
  inferred = ((refl, refl), tt);
  undeclared = undeclared by_id (codes "State");
  itself = same;
  not_below = λ is. differ (codes "State") (codes "Model") refl (below_same by_id (codes "State") (codes "Model") is);
  size = its_size;
}
