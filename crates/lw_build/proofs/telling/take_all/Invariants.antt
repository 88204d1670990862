use Rattle.std.proofs.Common.{◌≡◌, ◌++◌}
use Rattle.lw_build.specs.Telling.{AreListsTaken}
use Rattle.lw_build.proofs.telling.take_all.Given as goal

abbrev pub invariant-taking : goal.invariant-taking
invariant-taking l = record {
  next : (goal.iterator-taking).can_next l.d-iterator;
  finite : (goal.iterator-taking).is_finite l.d-iterator;
  left : l.yielded ++ l.d-iterator.rest.items ≡ l.fn.own.items;
  taken : AreListsTaken l.yielded l.fn.docs l.docs;
}
