use Rattle.lw_link_rules.proofs.Lettered.{doubled_together, twins_apart}
use Rattle.lw_link_rules.proofs.distinct.laws.names_stand_at_their_places.Goals as goal

pub returns : goal.returns
returns c = record { apart = twins_apart; together = doubled_together }
