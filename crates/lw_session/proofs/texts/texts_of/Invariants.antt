use Rattle.std.proofs.Common.{◌≡◌, ◌++◌, take, map}
use Rattle.lw_conversation.specs.Publishing.{as_reply}
use Rattle.lw_rpc.specs.Replies.{reply_bytes}
use Rattle.lw_session.proofs.texts.texts_of.Given as goal

abbrev pub invariant-lists : goal.invariant-lists
invariant-lists l = l.texts ≡ map reply_bytes l.fn.replies ++ map (λ list. reply_bytes (as_reply list)) (take l.list-index l.lists)
