use Rattle.std.proofs.Common.{map}
use Rattle.std.specs.List.{AllZip}
use Rattle.std.specs.Map.Iter.{deref_pair}
use Rattle.lw_build.specs.Seen.{IsViewOf}
use Rattle.lw_build.proofs.seen.views_of.Given as goal

abbrev pub invariant-viewing : goal.invariant-viewing
invariant-viewing l = record {
  next : (goal.iterator-viewing).can_next l._uri-iterator;
  finite : (goal.iterator-viewing).is_finite l._uri-iterator;
  views : AllZip (IsViewOf l.docs l.readings l.refs) (map deref_pair l.yielded) l.views.items;
}
