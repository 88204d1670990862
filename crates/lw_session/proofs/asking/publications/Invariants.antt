use Rattle.std.proofs.Common.{◌≡◌, take, map}
use Rattle.lw_conversation.specs.Publishing.{as_reply}
use Rattle.lw_session.proofs.asking.publications.Given as goal

abbrev pub invariant-lists : goal.invariant-lists
invariant-lists l = l.replies ≡ map as_reply (take l.list-index l.lists)
