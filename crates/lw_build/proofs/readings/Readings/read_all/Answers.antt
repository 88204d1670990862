use Rattle.std.proofs.Common.{ℕ, List, map, sym, subst, ◌∙◌, inl, inr}
use Rattle.std.specs.Map.Iter.{deref_pair}
use Rattle.std.proofs.lemmas.Map.Iter.{iter_turn, iter_end}
use Rattle.lw_base.specs.declared.numbers.DocId.{DocId}
use Rattle.lw_machine.proofs.Places.{Among}
use Rattle.lw_build.specs.Readings.{HasReading}
use Rattle.lw_build.specs.Telling.{numbered_places}
use Rattle.lw_build.proofs.Places.{among_at, among_push, map_push}
use Rattle.lw_build.proofs.News.{held_place, is_held}
use Rattle.lw_build.proofs.readings.Readings.read_all.Goals as goal

pub read_one-requires-clause-held : goal.read_one-requires-clause-held
read_one-requires-clause-held c =
    let turn = iter_turn deref_pair (numbered_places c.args.docs.now) c.reading.yielded c.into_iter-uri-iterator.result c.reading._uri-iterator c.next.new.self c.next.result
    (c.into_iter-uri-iterator.ensures.into_iter_gives ∙ c.uris-uri-items.ensures.rest) c.reading.yielded_by (c.in-Some._uri, c.in-Some.d) c.in-Some.is c.next.ensures.steps in
    is_held c.args.docs.now c.numbered.ensures c.in-Some._uri.now c.in-Some.d.now (among_at (numbered_places c.args.docs.now) _ _ turn.1)

pub reading-preserved : goal.reading-preserved
reading-preserved c = record {
  next = tt;
  finite = tt;
  kept = c.in_ok-read_one.ensures.kept;
  stays = λ n reading is. c.in_ok-read_one.ensures.stays n reading (c.reading.invariant.stays n reading is);
  all = λ p there.
      elim (among_push (map deref_pair c.reading.yielded) (c.in-Some._uri.now, c.in-Some.d.now) p
      (subst (Among p) (map_push deref_pair c.reading.yielded (c.in-Some._uri, c.in-Some.d)) there)) [
        | inl old ↦ (let has = c.reading.invariant.all p old in (has.0, c.in_ok-read_one.ensures.stays p.1.0 has.0 has.1))
        | inr new ↦ subst (λ (q : List ℕ × DocId). HasReading c.read_one.new.self q.1.0) new c.in_ok-read_one.ensures.here
      ];
}

pub returns-clause-all : goal.returns-clause-all
returns-clause-all c address held at =
    let end = iter_end deref_pair (numbered_places c.args.docs.now) c.reading.yielded c.into_iter-uri-iterator.result c.reading._uri-iterator c.next.new.self c.next.result
    (c.into_iter-uri-iterator.ensures.into_iter_gives ∙ c.uris-uri-items.ensures.rest) c.reading.yielded_by c.in-None.is c.next.ensures.steps in
    c.reading.invariant.all (address, held.number) (subst (Among (address, held.number)) (sym end.0) (held_place c.args.docs.now address held at))
