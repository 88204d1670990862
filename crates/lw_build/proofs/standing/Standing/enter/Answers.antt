use Rattle.std.proofs.Common.{ℕ, List, Contains, IsTrue, map, sym, subst, ◌∙◌, inl, inr}
use Rattle.std.specs.BTreeSet.{contains}
use Rattle.std.specs.Map.Iter.{deref_pair}
use Rattle.std.specs.Ordering.{nat_cmp}
use Rattle.std.proofs.lemmas.Map.Iter.{iter_end}
use Rattle.lw_base.specs.declared.numbers.DocId.{DocId}
use Rattle.lw_index.specs.Indexed.{exports_in}
use Rattle.lw_index.specs.declared.parts.Export.{Export}
use Rattle.lw_machine.proofs.Places.{Among}
use Rattle.lw_build.specs.Standing.{IsName, IsUntouched}
use Rattle.lw_build.specs.Telling.{numbered_places}
use Rattle.lw_build.proofs.News.{held_place}
use Rattle.lw_build.proofs.Places.{among_push, map_push}
use Rattle.lw_build.proofs.standing.Standing.enter.Goals as goal

pub entering-preserved : goal.entering-preserved
entering-preserved c = record {
  next = tt;
  finite = tt;
  untouched = c.in_ok-enter_one.ensures.untouched ∙ c.entering.invariant.untouched;
  stay = λ name has. c.in_ok-enter_one.ensures.stay name (c.entering.invariant.stay name has);
  entered = λ p there.
      elim (among_push (map deref_pair c.entering.yielded) (c.in-Some._uri.now, c.in-Some.d.now) p
      (subst (Among p) (map_push deref_pair c.entering.yielded (c.in-Some._uri, c.in-Some.d)) there)) [
        | inl old ↦ λ touched e has. c.in_ok-enter_one.ensures.stay e.name (c.entering.invariant.entered p old touched e has)
        | inr new ↦ subst (λ (q : List ℕ × DocId). ¬ IsUntouched c.args.self.now q.1.0 → (e : Export) → Contains (exports_in c.args.index.now q.1.0) e →
            IsName c.enter_one.new.self.changed.keys e.name) new
            (λ touched e has.
            c.in_ok-enter_one.ensures.entered
            (λ untouched. touched (subst (λ s. IsTrue (contains nat_cmp s c.in-Some.d.now.0)) c.entering.invariant.untouched untouched)) e
            (subst (λ (es : List Export). Contains es e) (sym c.of.ensures) has))
      ];
}

pub returns-clause-entered : goal.returns-clause-entered
returns-clause-entered c address held at =
    let docs = c.args.docs.now in
    let end = iter_end deref_pair (numbered_places docs) c.entering.yielded c.into_iter-uri-iterator.result c.entering._uri-iterator c.next.new.self c.next.result
    (c.into_iter-uri-iterator.ensures.into_iter_gives ∙ c.uris-uri-items.ensures.rest) c.entering.yielded_by c.in-None.is c.next.ensures.steps in
    c.entering.invariant.entered (address, held.number) (subst (Among (address, held.number)) (sym end.0) (held_place docs address held at))
