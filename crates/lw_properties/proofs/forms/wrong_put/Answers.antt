use Rattle.std.proofs.Common.{OnOk, sym, subst}
use Rattle.lw_faults.specs.Faults.{fault}
use Rattle.lw_faults.specs.Finding.{Finds}
use Rattle.lw_properties.specs.Told.{MisformedPut}
use Rattle.lw_properties.proofs.Found.{found_if}
use Rattle.lw_properties.proofs.forms.wrong_put.Goals as goal

pub returns-in_ok-so-in-Some : goal.returns-in_ok-so-in-Some
returns-in_ok-so-in-Some c =
    let g = c.args.known.now.g.now in
    let place = c.args.place.now in
    let action = c.args.action.now in
    let before = c.args.found.now in
    let now = c.tell_if.new.found in
    let put = c.in-Some in
    subst (λ x. OnOk c.tell_if.result (Finds (MisformedPut g place.rule.now place.before.now action x) before now)) (sym put.is)
    (found_if (fault 15 place.rule.now.file action.span put.name) before now c.tell_if.result c.in_ok-so-in-Some.so c.in_ok-so-in-Some.ensures c.tell_if.ensures)
