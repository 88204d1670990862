use Rattle.std.proofs.Common.{◌≡◌, ◌++◌, drop}
use Rattle.lw_rename.specs.SpansOf.{files_over}
use Rattle.lw_rename.proofs.files.files_of.Given as goal

abbrev pub invariant-filing : goal.invariant-filing
invariant-filing l = l.files ++ files_over (drop l.i l.views) (drop l.i l.spans) ≡ files_over l.views l.spans
