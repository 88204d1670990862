use Rattle.std.proofs.Common.{OnOk, sym, subst}
use Rattle.lw_faults.specs.Faults.{fault}
use Rattle.lw_faults.specs.Finding.{Finds}
use Rattle.lw_properties.specs.Told.{UnknownPut}
use Rattle.lw_properties.proofs.Found.{found_if}
use Rattle.lw_properties.proofs.unknown.unknown_put.Goals as goal

pub returns-in-Some : goal.returns-in-Some
returns-in-Some c =
    let g = c.args.known.now.g.now in
    let place = c.args.place.now in
    let action = c.args.action.now in
    let before = c.args.found.now in
    let now = c.tell_if.new.found in
    let put = c.in-Some in
    subst (λ x. OnOk c.tell_if.result (Finds (UnknownPut g place.rule.now place.before.now action x) before now)) (sym put.is)
    (found_if (fault 14 place.rule.now.file action.span put.name) before now c.tell_if.result c.is_lacking-so.result c.is_lacking-so.ensures c.tell_if.ensures)
