use Rattle.std.proofs.Common.{◌≡◌, take}
use Rattle.std.specs.Io.KnownBytes.{Appends}
use Rattle.lw_commands.specs.Talking.{in_frames}
use Rattle.lw_commands.proofs.serve.write_replies.Given as goal

-- the replies so far were written
abbrev pub invariant-replies : goal.invariant-replies
invariant-replies g l = record {
  written : Appends (g.K.Sink.written l.fn.out) (g.K.Sink.written l.out) (in_frames (take l.reply-index l.replies));
  count : g.K.Sink.count l.out ≡ g.K.Sink.count l.fn.out;
}
