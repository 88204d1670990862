-- A message that takes one part of a piece after another.
use Rattle.std.proofs.Common.{◌≡◌, ◌∙◌, ◌≤◌, ◌+◌, ◌-◌, ℕ, List, ◌++◌, length, take, drop, refl, sym, ap, arith, append_assoc, length-take, length-drop, false, true}
use Rattle.std.proofs.lemmas.List.{take_all, take-take}
use Rattle.std.proofs.Math.Seq.{take-add}
use Rattle.lw_frame.specs.Reading.{bytes_of, Grows, KeepsFront, is_waiting, is_whole}
use Rattle.lw_frame.specs.declared.incoming.Incoming.{Incoming}
use Rattle.lw_frame.specs.declared.stage.Stage.{Stage}
use Rattle.lw_frame.specs.declared.stage.Stage.TheVariants as stage

-- a slice up to the end
pub to_end : (n : ℕ) (bytes : List ℕ) → take (length bytes - n) (drop n bytes) ≡ drop n bytes
to_end n bytes = take_all (length bytes - n) (drop n bytes) (omega (arith, length-drop n bytes))

pub grows_on : (old mid new : Incoming) (piece rest : List ℕ) (used n : ℕ) → Grows old mid piece used → rest ≡ drop used piece → Grows mid new rest n → Grows old new piece (used + n)
grows_on old mid new piece rest used n first is next = record {
  start = next.start ∙ first.start;
  bytes = next.bytes ∙ ap (λ bs. bs ++ take n rest) first.bytes ∙ append_assoc (bytes_of old) (take used piece) (take n rest)
      ∙ ap (λ bs. bytes_of old ++ (take used piece ++ take n bs)) is ∙ ap (λ bs. bytes_of old ++ bs) (sym (take-add used n piece));
  read = next.read;
  within = omega (arith, first.within, next.within, ap length is, length-drop used piece);
}

front_on : (old mid new : List ℕ) → take (length old) mid ≡ old → take (length mid) new ≡ mid → take (length old) new ≡ old
front_on old mid new h k =
    let size : length old ≤ length mid = omega (arith, ap length h, length-take (length old) mid) in
    sym (take-take (length old) (length mid) new size) ∙ ap (take (length old)) k ∙ h

pub keeps_on : (old mid new : Incoming) → KeepsFront old mid → KeepsFront mid new → KeepsFront old new
keeps_on old mid new first next = record {
  start = next.start ∙ first.start;
  header = front_on old.header.items mid.header.items new.header.items first.header next.header;
  body = front_on old.body.items mid.body.items new.body.items first.body next.body;
}

pub whole_waits_not : (s : Stage) → is_whole s ≡ true → is_waiting s ≡ false
whole_waits_not (stage.Header line given) h = cc
whole_waits_not (stage.Content missing) h = cc
whole_waits_not stage.Whole h = refl
whole_waits_not (stage.Failed fault) h = cc
