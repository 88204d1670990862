use Rattle.std.proofs.Common.{◌≡◌, ℕ, List, Some, map}
use Rattle.std.specs.Map.Iter.{deref_pair}
use Rattle.lw_base.specs.declared.numbers.DocId.{DocId}
use Rattle.lw_machine.proofs.Places.{Among}
use Rattle.lw_build.specs.Readings.{AreDocumentsRead, HasReading, reading_at}
use Rattle.lw_build.specs.declared.readings.Reading.{Reading}
use Rattle.lw_build.proofs.readings.Readings.read_all.Given as goal

abbrev pub invariant-reading : goal.invariant-reading
invariant-reading l = record {
  next : (goal.iterator-reading).can_next l._uri-iterator;
  finite : (goal.iterator-reading).is_finite l._uri-iterator;
  kept : AreDocumentsRead l.language.grammar l.language.texts l.docs l.self;
  stays : (n : ℕ) (reading : Reading) → reading_at l.fn.self n ≡ Some reading → reading_at l.self n ≡ Some reading;
  all : (p : List ℕ × DocId) → Among p (map deref_pair l.yielded) → HasReading l.self p.1.0;
}
