use Rattle.std.proofs.Common.{◌≡◌, ◌↔◌, true, OnOk, sym, subst}
use Rattle.lw_faults.specs.Faults.{fault}
use Rattle.lw_faults.specs.Finding.{Finds}
use Rattle.lw_numbers.specs.Parts.{leaf_of}
use Rattle.lw_properties.specs.Asked.{LacksProperty, SomeType}
use Rattle.lw_properties.specs.Told.{UnknownHere}
use Rattle.lw_properties.proofs.Found.{found_if}
use Rattle.lw_properties.proofs.unknown.unknown_at.Goals as goal

pub returns-in_ok-so-in-Assign : goal.returns-in_ok-so-in-Assign
returns-in_ok-so-in-Assign c =
    let g = c.args.known.now.g.now in
    let place = c.args.place.now in
    let before = c.args.found.now in
    let now = c.tell_if.new.found in
    let l = c.in-Assign in
    let so = c.in_ok-so-in-Assign.so in
    let told = subst (λ ns. (so ≡ true) ↔ SomeType g (λ t. LacksProperty g t l.name.now) ns) c.as_slice-types.ensures.value c.in_ok-so-in-Assign.ensures in
    subst (λ x. OnOk c.tell_if.result (Finds (UnknownHere g place.rule.now place.before.now (leaf_of x)) before now)) (sym l.is)
    (found_if (fault 14 place.rule.now.file l.span l.name.now) before now c.tell_if.result so told c.tell_if.ensures)
