use Rattle.std.proofs.Common.{◌≡◌, None, not, sym, ap, refl, ◌∙◌}
use Rattle.std.proofs.lemmas.Bool.{false≢true}
use Rattle.lw_index.specs.Slots.{slot_in}
use Rattle.lw_index.specs.Turns.{swept}
use Rattle.lw_index.proofs.OneTurn.{turns_written, turns_nothing, swept-free, swept-held}
use Rattle.lw_index.proofs.exporters.sweep.Goals as goal
use Rattle.lw_index.proofs.exporters.sweep.Goals.{in-Some, in-None}

pub returns-then-free : goal.returns-then-free
returns-then-free c =
    let es = c.args.exporters.now in
    let gone : swept (slot_in es c.args.place.now) ≡ None = elim c.match-get.branch [
      | in-Some w ↦ swept-free (slot_in es c.args.place.now) w.in-Some.slot.now w.in-Some.ensures.value (w.is_none-free.ensures ∙ ap not (sym w.free-is ∙ c.if-free.true))
      | in-None w ↦ absurd (false≢true (sym w.free-is ∙ c.if-free.true))
    ] in
    turns_written swept c.args.place.now es c.remove.new.self None gone c.remove.ensures.updates.0

pub returns-else-free : goal.returns-else-free
returns-else-free c =
    let es = c.args.exporters.now in
    let stays : swept (slot_in es c.args.place.now) ≡ slot_in es c.args.place.now = elim c.match-get.branch [
      | in-Some w ↦ swept-held (slot_in es c.args.place.now) w.in-Some.slot.now w.in-Some.ensures.value (w.is_none-free.ensures ∙ ap not (sym w.free-is ∙ c.if-free.false))
      | in-None w ↦ sym (ap swept w.in-None.ensures.value) ∙ w.in-None.ensures.value
    ] in
    turns_nothing swept c.args.place.now es es stays (λ p. refl)
