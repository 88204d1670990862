-- There are two sentences.
use Rattle.lw_grammar.proofs.Starting.{Starts-front}
use Rattle.lw_grammar.proofs.TwoWays.{are_kinds, second_way, a_starts, no_c_after_a, no_short_sentence}
use Rattle.lw_grammar.proofs.sentences.laws.starts_of_sentences.Goals as goal

pub returns : goal.returns
returns c = record {
  front = Starts-front;
  kinds = are_kinds;
  whole = second_way;
  starts = a_starts;
  no_start = no_c_after_a;
  not_whole = no_short_sentence;
}
