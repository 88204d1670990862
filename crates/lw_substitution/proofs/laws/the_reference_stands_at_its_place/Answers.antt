use Rattle.lw_substitution.proofs.Standing.{stands_whole, stands_begun}
use Rattle.lw_substitution.proofs.laws.the_reference_stands_at_its_place.Goals as goal

pub returns : goal.returns
returns c = record {
  whole = λ g text next after place front mid rest tokens tree makes is_place is. stands_whole g text next makes front mid place is_place after rest tokens tree is;
  begun = λ g text next after place front mid rest tokens tree r makes is_place is at.
      stands_begun g text next makes front mid place is_place after rest tokens tree r is at;
}
