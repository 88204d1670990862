-- References lead to what is found by looking, and what is told is listed and put in order.
use Rattle.lw_machine.proofs.Existing.{links_and_list}
use Rattle.lw_machine.proofs.OfDocuments.{have_links_and_lists}
use Rattle.lw_machine.proofs.outcomes.laws.links_and_lists_exist.Goals as goal

pub returns : goal.returns
returns c = record { texts = links_and_list; documents = have_links_and_lists }
