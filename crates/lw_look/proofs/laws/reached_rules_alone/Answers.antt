-- What follows is followed up to the entry.
use Rattle.lw_look.proofs.Reaching.{after_reached, look_reached}
use Rattle.lw_look.proofs.laws.reached_rules_alone.Goals as goal

pub returns : goal.returns
returns c = record {
  after = λ g kinds s ks after. after_reached g kinds after;
  look = λ g kinds k way s w shows. look_reached g kinds shows;
}
