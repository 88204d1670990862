use Rattle.std.proofs.Common.{◌≡◌, ℕ, List, Contains, map}
use Rattle.std.specs.Map.Iter.{deref_pair}
use Rattle.lw_base.specs.declared.numbers.DocId.{DocId}
use Rattle.lw_index.specs.Indexed.{exports_in}
use Rattle.lw_index.specs.declared.parts.Export.{Export}
use Rattle.lw_machine.proofs.Places.{Among}
use Rattle.lw_build.specs.Standing.{IsName, IsUntouched, StayNames}
use Rattle.lw_build.proofs.standing.Standing.enter.Given as goal

abbrev pub invariant-entering : goal.invariant-entering
invariant-entering l = record {
  next : (goal.iterator-entering).can_next l._uri-iterator;
  finite : (goal.iterator-entering).is_finite l._uri-iterator;
  untouched : l.self.untouched ≡ l.fn.self.untouched;
  stay : StayNames l.fn.self.changed.keys l.self.changed.keys;
  entered : (p : List ℕ × DocId) → Among p (map deref_pair l.yielded) → ¬ IsUntouched l.fn.self p.1.0 → (e : Export) →
      Contains (exports_in l.index p.1.0) e → IsName l.self.changed.keys e.name;
}
