use Rattle.std.proofs.Common.{◌≤◌, length}
use Rattle.lw_gramread.specs.declared.lexeme.Reserved.TheVariants as word
use Rattle.lw_gramread.specs.Steps.{◌>>◌, sees_reserved, skip, one}
use Rattle.lw_gramread.specs.FileSteps.{import, imports}
use Rattle.lw_gramread.proofs.Loops.{Gathering}
use Rattle.lw_gramread.proofs.reader.file.imports.Given as goal

abbrev pub invariant-more : goal.invariant-more
invariant-more l = record {
  read : Gathering (sees_reserved word.Import) (skip >> one import) (imports l.fn.left) l.imports l.left;
  shorter : length l.left ≤ length l.fn.left;
}

abbrev pub decreases-more : goal.decreases-more
decreases-more l = length l.left
