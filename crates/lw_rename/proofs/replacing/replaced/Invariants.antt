use Rattle.std.proofs.Common.{◌≤◌, drop, length}
use Rattle.lw_base.specs.declared.limits.TheConstants.{LONGEST_DOCUMENT}
use Rattle.lw_rename.proofs.Pieces.{IsSoFar}
use Rattle.lw_rename.proofs.replacing.replaced.Given as goal

abbrev pub invariant-replacing : goal.invariant-replacing
invariant-replacing l = record {
  so_far : IsSoFar l.new l.text l.out.items l.at (drop l.span-index l.spans) l.spans;
  short : length l.out.items ≤ LONGEST_DOCUMENT;
}
