use Rattle.std.proofs.Common.{◌≡◌, ◌≤◌, ℕ, List, length, take, arith, subst, sym}
use Rattle.std.proofs.lemmas.Grind.{common_steps}
use Rattle.std.specs.Io.KnownBytes.{Consumes}
use Rattle.std.proofs.Common.{Option}
use Rattle.lw_frame.specs.Stream.{Stream, with_piece}
use Rattle.lw_frame.specs.Wanted.{StaysWithin}
use Rattle.lw_commands.specs.Talking as talking
use Rattle.lw_commands.specs.Talking.{TakesPiece, LosesPiece}
use Rattle.lw_commands.specs.declared.stop.Stop.TheVariants as stop
use Rattle.lw_commands.proofs.serve.take_into.Goals as goal

module _ (n : ℕ) (buffer : List ℕ) (within : n ≤ length buffer) (before now : Option (List ℕ)) (s : Stream) (most : ℕ) (same : length buffer ≡ most)
    (consumed : Consumes before now (take n buffer)) (stays : StaysWithin s.fed most) where
  size : length (take n buffer) ≡ n
  size = grind (arith, common_steps)

  lost : LosesPiece before now s stop.Memory
  lost = talking.lost (take n buffer) consumed (stays (take n buffer) (omega (arith, size, within, same)))

  took : (t : Stream) → 1 ≤ n → t ≡ with_piece s (take n buffer) → TakesPiece before now s t n
  took t some is =
      subst (λ k. TakesPiece before now s t k) size
      (subst (λ st. TakesPiece before now s st (length (take n buffer))) (sym is)
      (talking.piece (take n buffer) (omega (arith, size, some)) consumed (stays (take n buffer) (omega (arith, size, within, same)))))

pub returns-in-Err-clause-fault : goal.returns-in-Err-clause-fault
returns-in-Err-clause-fault g c =
    let got = c.in-Got.ensures.bytes in
    lost c.in-Got.count c.read.new.buf got.1 _ _ c.args.reader.now.stream (length c.args.buffer.now) c.read.auto.buf got.2 c.requires.within

pub returns-in-Ok-clause-taken : goal.returns-in-Ok-clause-taken
returns-in-Ok-clause-taken g c =
    let got = c.in-Got.ensures.bytes in
    took c.in-Got.count c.read.new.buf got.1 _ _ c.args.reader.now.stream (length c.args.buffer.now) c.read.auto.buf got.2 c.requires.within _ got.0 c.in-Ok.ensures.ok

pub returns-in-End-clause-taken : goal.returns-in-End-clause-taken
returns-in-End-clause-taken g c = talking.at_end c.in-End.ensures.bytes.1 c.in-End.ensures.bytes.2

pub returns-in-Failed-clause-fault : goal.returns-in-Failed-clause-fault
returns-in-Failed-clause-fault g c = talking.unread c.in-Failed.ensures.bytes
