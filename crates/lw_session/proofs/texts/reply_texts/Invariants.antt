use Rattle.std.proofs.Common.{◌≡◌, take, map}
use Rattle.lw_rpc.specs.Replies.{reply_bytes}
use Rattle.lw_session.proofs.texts.reply_texts.Given as goal

abbrev pub invariant-replies : goal.invariant-replies
invariant-replies l = l.texts ≡ map reply_bytes (take l.reply-index l.replies)
