use Rattle.lw_substitution.proofs.StatesAlike.{states_alike, names_differ, one_left_out, fronts_say_the_same, rests_say_the_same, rests_have_moved}
use Rattle.lw_substitution.proofs.laws.a_longer_name_is_the_only_difference.Goals as goal

pub returns : goal.returns
returns c = record {
  alike = states_alike;
  elsewhere = names_differ;
  left_out = one_left_out;
  front = fronts_say_the_same;
  rest = rests_say_the_same;
  moved = rests_have_moved;
}
