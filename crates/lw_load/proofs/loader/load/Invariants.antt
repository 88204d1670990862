use Rattle.std.proofs.Common.{◌≡◌, IfSome}
use Rattle.lw_load.proofs.Kept.{Keeps, paths_left}
use Rattle.lw_load.proofs.Ways.{IsOnWay}
use Rattle.lw_load.proofs.loader.load.Given as goal

-- the walk leads where the root does, and the store stands as it stood
abbrev pub invariant-walking : goal.invariant-walking
invariant-walking g l = record {
  keeps : Keeps l.walk;
  way : IfSome (g.F.Store.files l.fn.store) (λ files. IsOnWay files l.root l.walk);
  files : g.F.Store.files l.store ≡ g.F.Store.files l.fn.store;
  count : g.F.Store.count l.store ≡ g.F.Store.count l.fn.store;
}

abbrev pub decreases-walking : goal.decreases-walking
decreases-walking g l = paths_left l.walk
