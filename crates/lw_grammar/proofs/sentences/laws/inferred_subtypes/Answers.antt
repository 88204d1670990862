-- Two pairs are all that there are.
use Rattle.lw_grammar.proofs.DottedWorked.{other_below_root, root_not_below_other}
use Rattle.lw_grammar.proofs.sentences.laws.inferred_subtypes.Goals as goal

pub returns : goal.returns
returns c = record {
  below = other_below_root;
  not_above = root_not_below_other;
}
