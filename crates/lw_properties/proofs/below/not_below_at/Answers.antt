use Rattle.std.proofs.Common.{◌≡◌, ◌↔◌, true, OnOk, refl, sym, subst}
use Rattle.std.proofs.lemmas.Option.{none-some, same_Some}
use Rattle.lw_faults.specs.Faults.{fault}
use Rattle.lw_faults.specs.Finding.{Finds}
use Rattle.lw_faults.proofs.Joining.{Finds-nothing}
use Rattle.lw_numbers.specs.Parts.{leaf_of}
use Rattle.lw_properties.specs.Told.{NotBelowHere, FallsOut}
use Rattle.lw_properties.proofs.Found.{found_if}
use Rattle.lw_properties.proofs.below.not_below_at.Goals as goal

pub returns-in_ok-so-in-Act : goal.returns-in_ok-so-in-Act
returns-in_ok-so-in-Act c =
    let g = c.args.known.now.g.now in
    let place = c.args.place.now in
    let before = c.args.found.now in
    let now = c.tell_if.new.found in
    let action = c.in-Act.action.now in
    let so = c.in_ok-so-in-Act.so in
    let told = subst (λ ns. (so ≡ true) ↔ FallsOut g action.type_name ns) c.as_slice-types.ensures.value c.in_ok-so-in-Act.ensures in
    subst (λ x. OnOk c.tell_if.result (Finds (NotBelowHere g place.rule.now place.before.now (leaf_of x)) before now)) (sym c.in-Act.is)
    (found_if (fault 17 place.rule.now.file action.span action.type_name) before now c.tell_if.result so told c.tell_if.ensures)

pub returns-in_ok-so-in-Some : goal.returns-in_ok-so-in-Some
returns-in_ok-so-in-Some c =
    let g = c.args.known.now.g.now in
    let place = c.args.place.now in
    let before = c.args.found.now in
    let now = c.tell_if-in-Some.new.found in
    let call = c.in-Call in
    let type_named = c.in-Some.ensures call.span in
    let below = c.in-Some.below.now in
    let of = place.before.now.of.items in
    let so = c.in_ok-so-in-Some.so in
    let told = subst (λ ns. (so ≡ true) ↔ FallsOut g below ns) c.as_slice-types.ensures.value c.in_ok-so-in-Some.ensures in
    subst (λ x. OnOk c.tell_if-in-Some.result (Finds (NotBelowHere g place.rule.now place.before.now (leaf_of x)) before now)) (sym call.is)
    (found_if (fault 17 place.rule.now.file call.span call.name.now) before now c.tell_if-in-Some.result so (
      λ is. (below, (type_named below).1 refl, told.0 is),
      λ is. told.1 (subst (λ t. FallsOut g t of) (sym (same_Some below is.0 ((type_named is.0).0 is.1))) is.2),
    )
    c.tell_if-in-Some.ensures)

pub returns-in-None : goal.returns-in-None
returns-in-None c =
    let g = c.args.known.now.g.now in
    let place = c.args.place.now in
    let before = c.args.found.now in
    let call = c.in-Call in
    subst (λ x. Finds (NotBelowHere g place.rule.now place.before.now (leaf_of x)) before before) (sym call.is)
    (Finds-nothing (λ f is. none-some is.0.0 ((c.in-None.ensures call.span is.0.0).0 is.0.1)))
