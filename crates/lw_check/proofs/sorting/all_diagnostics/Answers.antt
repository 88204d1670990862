use Rattle.std.proofs.Common.{List, subst}
use Rattle.lw_faults.specs.Finding.{Finds}
use Rattle.lw_faults.proofs.Joining.{Finds-then}
use Rattle.lw_check.specs.declared.sorting.KeyedDiagnostic.{KeyedDiagnostic}
use Rattle.lw_check.specs.Sorting.{diagnostics_of}
use Rattle.lw_check.specs.Telling.{TellsSomeAnswer}
use Rattle.lw_check.proofs.sorting.all_diagnostics.Goals as goal

pub returns : goal.returns
returns c g types =
    let P : List KeyedDiagnostic → Type 0 = λ ds. Finds (TellsSomeAnswer g c.args.tree.now c.args.answers.now c.args.doc.0 c.args.index.now) (diagnostics_of ds)
    (diagnostics_of c.tell_unresolved.new.diagnostics.items) in
    Finds-then
    (Finds-then (Finds-then (subst P c.new-diagnostics.ensures.items (c.in_ok-tell_unresolved.ensures g types)) (c.in_ok-tell_duplicates.ensures g types))
    (c.in_ok-tell_rivals.ensures g types))
    c.in_ok-tell_numbers.ensures
