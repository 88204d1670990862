use Rattle.std.proofs.Common.{subst}
use Rattle.std.specs.Io.KnownBytes.{Appends}
use Rattle.lw_commands.specs.Serving.{WritesPart}
use Rattle.lw_commands.specs.Talking.{in_frames}
use Rattle.lw_commands.proofs.Conversing.{responds, stops_unanswered, stops_writing}
use Rattle.lw_commands.proofs.serve.respond.Goals as goal

pub returns-clause-answered : goal.returns-clause-answered
returns-clause-answered g c =
    let old = g.K.Sink.written c.args.out.now in
    let new = g.K.Sink.written c.write_replies.new.out in
    let whole : Appends old new (in_frames c.as_slice.result.now) = c.in_ok-write_replies.ensures.whole in
    responds _ _ _ _ _ _ _ _ _ c.in_ok-handled.ensures.handles old new (subst (λ texts. Appends old new (in_frames texts)) c.as_slice.ensures whole)

pub returns-in_err-handled-clause-stopped : goal.returns-in_err-handled-clause-stopped
returns-in_err-handled-clause-stopped g c = stops_unanswered _ _ _ _ _ (g.K.Sink.written c.args.out.now) c.from_residual.result c.from_residual.ensures.1

pub returns-in_err-write_replies-clause-stopped : goal.returns-in_err-write_replies-clause-stopped
returns-in_err-write_replies-clause-stopped g c =
    let old = g.K.Sink.written c.args.out.now in
    let new = g.K.Sink.written c.write_replies.new.out in
    let part : WritesPart old new (in_frames c.as_slice.result.now) = c.in_err-write_replies.ensures.part in
    stops_writing _ _ _ _ _ _ _ _ _ c.in_ok-handled.ensures.handles old new c.in_err-write_replies.field-0.0 c.from_residual-in_err-write_replies.result
    c.in_err-write_replies.ensures.fault (subst (λ texts. WritesPart old new (in_frames texts)) c.as_slice.ensures part) c.from_residual-in_err-write_replies.ensures.1
