-- Each list is written out.
use Rattle.std.proofs.Common.{codes, refl}
use Rattle.std.proofs.lemmas.Option.{same_Some}
use Rattle.lw_grammar.proofs.Every.{differ}
use Rattle.lw_grammar.proofs.StatesWorked.{state_keywords, its_kinds, id_kind, no_state_kind, model_text, no_seventh_text}
use Rattle.lw_grammar.proofs.sentences.laws.kinds_of_states.Goals as goal

pub returns : goal.returns
returns c = record {
  keywords = state_keywords;
  kinds = its_kinds;
  count = refl;
  keyword = refl;
  no_keyword = λ is. differ (codes "end") (codes "to") refl (same_Some _ _ is);
  terminal = id_kind;
  no_terminal = no_state_kind;
  told = model_text;
  none_told = no_seventh_text;
}
