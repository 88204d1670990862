use Rattle.lw_substitution.proofs.Placed.{front_counts, one_place, place_moves, place_there}
use Rattle.lw_substitution.proofs.laws.references_before_give_the_place.Goals as goal

pub returns : goal.returns
returns c = record {
  front = λ g of front tokens next tree r is. front_counts g front of tokens next tree r is;
  texts = λ g text other next front fore place same is. place_moves g text other next front fore place same is;
  there = λ g text next after front mid rest bs reads is. place_there g text next after front mid rest bs reads is;
  once = λ g text next front place other is was. one_place g text next front place other is was;
}
