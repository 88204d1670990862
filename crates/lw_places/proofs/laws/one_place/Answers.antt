-- The orders are strict, and a reference has one link.
use Rattle.lw_link_rules.specs.Links.{IsNumberBelow}
use Rattle.lw_places.proofs.OneMeant.{one_list, one_meant}
use Rattle.lw_places.proofs.OnePlace.{one_place}
use Rattle.lw_places.proofs.laws.one_place.Goals as goal

pub returns : goal.returns
returns c = record {
  place = one_place;
  meant = λ g trees. one_meant (IsNumberBelow g) trees;
  mentions = λ g trees. one_list (IsNumberBelow g) trees;
}
