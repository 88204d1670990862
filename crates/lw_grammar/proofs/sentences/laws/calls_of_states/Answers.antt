-- A state calls ID alone.
use Rattle.std.proofs.Common.{codes, refl}
use Rattle.lw_grammar.specs.Worked.{by_id}
use Rattle.lw_grammar.proofs.Every.{differ}
use Rattle.lw_grammar.proofs.StatesWorked.{model_calls_state, state_calls_alone, state_reached}
use Rattle.lw_grammar.proofs.sentences.laws.calls_of_states.Goals as goal

pub returns : goal.returns
returns c = record {
  calls = model_calls_state by_id;
  not_back = λ is. differ (codes "Model") (codes "ID") refl (state_calls_alone (codes "Model") is);
  reached = state_reached by_id;
}
