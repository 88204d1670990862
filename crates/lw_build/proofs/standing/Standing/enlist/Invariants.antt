use Rattle.std.proofs.Common.{ℕ, List, map}
use Rattle.std.specs.Map.Iter.{deref_pair}
use Rattle.lw_base.specs.declared.numbers.DocId.{DocId}
use Rattle.lw_machine.proofs.Places.{Among}
use Rattle.lw_build.specs.Standing.{AreHeld, IsUntouched}
use Rattle.lw_build.proofs.standing.Standing.enlist.Given as goal

abbrev pub invariant-enlisting : goal.invariant-enlisting
invariant-enlisting l = record {
  next : (goal.iterator-enlisting).can_next l._uri-iterator;
  finite : (goal.iterator-enlisting).is_finite l._uri-iterator;
  held : AreHeld l.docs l.self;
  all : (p : List ℕ × DocId) → Among p (map deref_pair l.yielded) → IsUntouched l.self p.1.0;
}
