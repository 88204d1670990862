use Rattle.std.proofs.Common.{subst, sym, ap, refl}
use Rattle.std.specs.Option.{IsSome}
use Rattle.lw_index.specs.Slots.{slot_at}
use Rattle.lw_index.specs.Turns.{offered}
use Rattle.lw_index.proofs.NameTurn.{turns_through, turns_unnamed}
use Rattle.lw_index.proofs.names.offer.Goals as goal

pub returns-in-Some : goal.returns-in-Some
returns-in-Some c =
    let after = c.offer.new.exporters in
    turns_through (offered c.args.doc c.args.node) c.args.name.now c.args.place.now c.args.names.now (c.get_mut.follows.lender after) c.in-Some.exporters.now after c.in-Some.ensures.value c.offer.ensures
    ((c.get_mut.follows.holds after).3 (subst IsSome c.in-Some.ensures.value refl)).0

pub returns-in_default : goal.returns-in_default
returns-in_default c =
    turns_unnamed (offered c.args.doc c.args.node) c.args.name.now c.args.place.now c.args.names.now c.get_mut.follows.lender-at-none refl (sym c.in_default.ensures.value) (λ m p. ap (λ names. slot_at names m p) c.get_mut.follows.holds-at-none)
