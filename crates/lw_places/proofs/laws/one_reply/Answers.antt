-- Trees of one text have the same tables.
use Rattle.lw_places.proofs.OneReply.{one_list_of_references, one_place_of_definition}
use Rattle.lw_places.proofs.laws.one_reply.Goals as goal

pub returns : goal.returns
returns c = record { definition = one_place_of_definition; references = one_list_of_references }
