use Rattle.std.proofs.Common.{◌≡◌, ℕ, ◌<◌, map, slice_get}
use Rattle.lw_rename.specs.Leads.{link_among}
use Rattle.lw_rename.proofs.leading.first_other.Given as goal

abbrev pub invariant-comparing : goal.invariant-comparing
invariant-comparing l = (k : ℕ) → k < l.i → slice_get (map (link_among l.views) l.before) k ≡ slice_get (map (link_among l.views) l.after) k
