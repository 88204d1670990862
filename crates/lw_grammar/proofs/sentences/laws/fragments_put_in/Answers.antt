-- A rule has one list of leaves.
use Rattle.lw_grammar.proofs.FragmentWorked.{put_in_leaves, not_its_own, fragment_has_no_type}
use Rattle.lw_grammar.proofs.sentences.laws.fragments_put_in.Goals as goal

pub returns : goal.returns
returns c = record {
  leaves = put_in_leaves;
  not_its_own = not_its_own;
  no_type = fragment_has_no_type;
}
