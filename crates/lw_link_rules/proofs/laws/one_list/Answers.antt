-- A text has one reading, a kind one text, and a place one position.
use Rattle.lw_link_rules.proofs.OneList.{one_list, one_list_of_links}
use Rattle.lw_link_rules.proofs.laws.one_list.Goals as goal

pub returns : goal.returns
returns c = record { diagnostics = one_list; links = one_list_of_links }
