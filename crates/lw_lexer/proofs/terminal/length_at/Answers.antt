use Rattle.std.proofs.Common.{length, refl, arith}
use Rattle.std.proofs.lemmas.Option.{slice_get_read}
use Rattle.lw_lexer.proofs.terminal.length_at.Goals as goal

pub known_length-requires : goal.known_length-requires
known_length-requires c =
    let items = c.args.known.now.items in
    record {
      known = c.requires.known c.index_mut.result.now
          (slice_get_read items (length items) c.args.i c.index_mut.result.now refl (omega (arith, c.if-i-len.true, c.len.ensures)) c.index_mut.ensures.value);
    }
