use Rattle.std.proofs.Common.{◌≡◌, ◌≢◌, ℕ, ◌<◌, Some, slice_get}
use Rattle.lw_query.specs.declared.view.View.{View}
use Rattle.lw_rename.proofs.leading.address_of.Given as goal

abbrev pub invariant-finding : goal.invariant-finding
invariant-finding l = (k : ℕ) (v : View) → k < l.view-index → slice_get l.views k ≡ Some v → v.doc.0 ≢ l.doc.0
