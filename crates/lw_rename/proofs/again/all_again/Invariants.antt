use Rattle.std.proofs.Common.{◌≡◌, length}
use Rattle.lw_rename.specs.Rereading.{AreAgain}
use Rattle.lw_rename.proofs.again.all_again.Given as goal

abbrev pub invariant-reading : goal.invariant-reading
invariant-reading l = record { long : length l.trees.items ≡ l.i; again : AreAgain l.language.grammar l.new l.views l.spans l.trees.items }
