use Rattle.std.proofs.Common.{◌≡◌, ◌≢◌, ℕ, ◌<◌, Some, slice_get}
use Rattle.lw_query.specs.declared.view.View.{View}
use Rattle.lw_rename.proofs.meaning.meant.Given as goal

abbrev pub invariant-looking : goal.invariant-looking
invariant-looking l = (k : ℕ) (v : View) → k < l.view-index → slice_get l.views k ≡ Some v → v.uri.now ≢ l.uri
