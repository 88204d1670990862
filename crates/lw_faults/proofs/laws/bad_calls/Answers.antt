-- Each rule and each terminal makes one call, or has one range.
use Rattle.lw_faults.proofs.BadCallsWorked.{hidden, fragment_found, implicit_found, token, of_rule, of_terminal, down, two_characters, one_character, to_node, to_text}
use Rattle.lw_faults.proofs.laws.bad_calls.Goals as goal
use Rattle.std.proofs.Common.{true, false, inl, inr, refl}

pub returns : goal.returns
returns c = record {
  hidden = hidden;
  fragment_ = fragment_found;
  token = token;
  implicit = implicit_found true false (inl refl);
  implicit_fragment = implicit_found false true (inr refl);
  of_rule = of_rule;
  of_terminal = of_terminal;
  down = down;
  two_characters = two_characters;
  one_character = one_character;
  to_node = to_node;
  to_text = to_text;
}
