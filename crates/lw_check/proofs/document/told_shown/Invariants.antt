use Rattle.std.proofs.Common.{◌≡◌, ◌++◌}
use Rattle.std.specs.List.{AllZip}
use Rattle.std.specs.Vec.Iter.{into_iter_items}
use Rattle.lw_link_rules.specs.Diagnostics.{IsDiagnosticShown}
use Rattle.lw_check.specs.Sorting.{diagnostics_of}
use Rattle.lw_check.proofs.document.told_shown.Given as goal

abbrev pub invariant-showing : goal.invariant-showing
invariant-showing l =
    record {
      left : l.yielded ++ into_iter_items l.diagnostic-iterator ≡ into_iter_items l.initial.diagnostic-iterator;
      shown : AllZip (IsDiagnosticShown l.document) (diagnostics_of l.yielded) l.list;
    }
