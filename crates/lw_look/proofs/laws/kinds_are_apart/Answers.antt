-- First uses differ, and a name means one thing.
use Rattle.lw_grammar.proofs.FirstLemmas.{one_terminal_kind}
use Rattle.lw_look.proofs.Apart.{are_apart, no_terminal_is_rule}
use Rattle.lw_look.proofs.laws.kinds_are_apart.Goals as goal

pub returns : goal.returns
returns c = record {
  keyword = λ g kinds text k l are is was. (are_apart g kinds are).keywords text k l is was;
  terminal = one_terminal_kind;
  terminal_or_rule = no_terminal_is_rule;
}
