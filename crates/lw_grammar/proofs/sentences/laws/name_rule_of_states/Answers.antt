-- The first `name=` of a state calls ID, and no model is a state.
use Rattle.std.proofs.Common.{codes, refl}
use Rattle.lw_grammar.specs.Worked.{by_name}
use Rattle.lw_grammar.proofs.Every.{differ}
use Rattle.lw_grammar.proofs.StatesWorked.{state_name_rule, only_name_rule, by_name_calls, by_name_calls_alone}
use Rattle.lw_grammar.proofs.sentences.laws.name_rule_of_states.Goals as goal

pub returns : goal.returns
returns c = record {
  by_id = state_name_rule by_name;
  no_other = only_name_rule by_name;
  calls = by_name_calls;
  calls_no_other = λ is. differ (codes "State") (codes "ID") refl (by_name_calls_alone (codes "State") is);
}
