use Rattle.std.proofs.Common.{◌≡◌, ℕ, ◌<◌, List, Some, slice_get, false}
use Rattle.lw_matching.specs.Stays.{is_begun}
use Rattle.lw_matching.proofs.sure.front.none_begun.Given as goal

abbrev pub invariant-loop-keyword : goal.invariant-loop-keyword
invariant-loop-keyword l = record {
  below : (j : ℕ) (keyword : List ℕ) → j < l.keyword-index → slice_get l.keywords j ≡ Some keyword → is_begun keyword l.text ≡ false;
}
