use Rattle.std.proofs.Common.{◌≡◌, List, sym, subst}
use Rattle.lw_faults.specs.Finding.{Finds}
use Rattle.lw_faults.proofs.Joining.{Finds-pushed}
use Rattle.lw_link_rules.specs.TreeDiagnostics.{Diagnostic}
use Rattle.lw_tree.specs.declared.node.Value.{Value}
use Rattle.lw_check.specs.Sorting.{diagnostic_of, diagnostics_of}
use Rattle.lw_check.specs.Telling.{TellsValue}
use Rattle.lw_check.proofs.numbers.tell_value.Goals as goal

pub returns-in_ok-push-in-Huge : goal.returns-in_ok-push-in-Huge
returns-in_ok-push-in-Huge c =
    let old : List Diagnostic = diagnostics_of c.args.diagnostics.now.items in
    let new : List Diagnostic = diagnostics_of c.push.new.self.items in
    let P : Value → Type 0 = λ v. Finds (TellsValue v) old new in
    let Q : Diagnostic → Type 0 = λ d. Finds (λ y. y ≡ d) old new in
    subst P (sym c.in-Huge.is)
    (subst Q c.in_ok-out_of_range-in-Huge.ensures (Finds-pushed diagnostic_of c.args.diagnostics.now.items c.push.new.self.items _ c.in_ok-push-in-Huge.ensures.items))
