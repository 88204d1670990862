use Rattle.std.proofs.Common.{◌≡◌, Some, None, subst, sym, ap, refl, ◌∙◌}
use Rattle.std.specs.Option.{IsSome}
use Rattle.lw_index.specs.Slots.{slot_in}
use Rattle.lw_index.specs.Turns.{emptied}
use Rattle.lw_index.proofs.OneTurn.{turns_written, turns_nothing}
use Rattle.lw_index.proofs.exporters.withdraw.Goals as goal

pub returns-in-Some : goal.returns-in-Some
returns-in-Some c =
    let is : Some c.in-Some.slot.now ≡ slot_in c.args.exporters.now c.args.place.now = c.in-Some.ensures.value in
    turns_written emptied c.args.place.now c.args.exporters.now (c.get_mut.follows.lender (record { doc = c.in-Some.slot.now.doc; node = None })) (Some (record { doc = c.in-Some.slot.now.doc; node = None })) (ap emptied (sym is)) ((c.get_mut.follows.holds (record { doc = c.in-Some.slot.now.doc; node = None })).3 (subst IsSome is refl)).0

pub returns-in_default : goal.returns-in_default
returns-in_default c =
    let is : None ≡ slot_in c.args.exporters.now c.args.place.now = c.in_default.ensures.value in
    turns_nothing emptied c.args.place.now c.args.exporters.now c.get_mut.follows.lender-at-none (ap emptied (sym is) ∙ is) (λ p. ap (λ es. slot_in es p) c.get_mut.follows.holds-at-none)
