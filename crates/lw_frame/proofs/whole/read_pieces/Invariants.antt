use Rattle.std.proofs.Common.{◌≡◌, ◌++◌, length, drop, false}
use Rattle.lw_frame.specs.Frames.{bodies_of}
use Rattle.lw_frame.specs.Pieces.{stream_of}
use Rattle.lw_frame.proofs.whole.read_pieces.Given as goal

abbrev pub invariant-pieces : goal.invariant-pieces
invariant-pieces l = record {
  fed : l.reader.stream.fed ++ stream_of (drop l.piece-index l.pieces) ≡ stream_of l.pieces;
  going_on : l.reader.stream.closed ≡ false;
  given : l.reader.stream.given ≡ length (bodies_of l.reader.stream.fed);
  bodies : l.bodies ≡ bodies_of l.reader.stream.fed;
}
