use Rattle.std.proofs.Common.{◌≡◌}
use Rattle.lw_complete.proofs.KeywordsNext.{AreSoFar}
use Rattle.lw_complete.proofs.keywords.keywords.Given as goal

abbrev pub invariant-kinds : goal.invariant-kinds
invariant-kinds l = record {
  so_far : AreSoFar l.typing l.set.lexicon.keywords l.kind-items l.kind-index l.found.items;
  kept : l.recutter ≡ l.initial.recutter;
}
