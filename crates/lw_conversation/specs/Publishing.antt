-- Lists of diagnostics as replies.
-- Language Server Protocol 3.17, "PublishDiagnostics Notification".
use Rattle.lw_machine.specs.declared.published.Published.{Published}
use Rattle.lw_rpc.specs.declared.reply.Reply.{Reply}
use Rattle.lw_rpc.specs.declared.reply.Reply.TheVariants.{Publish}

-- a list of diagnostics is told by a publication
abbrev pub as_reply : Published → Reply
as_reply p = Publish p.uri p.version p.list
