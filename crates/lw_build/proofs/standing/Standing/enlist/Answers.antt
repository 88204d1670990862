use Rattle.std.proofs.Common.{ℕ, List, map, sym, subst, ◌∙◌, inl, inr}
use Rattle.std.specs.Map.Iter.{deref_pair}
use Rattle.std.proofs.lemmas.Map.Iter.{iter_turn, iter_end}
use Rattle.lw_base.specs.declared.numbers.DocId.{DocId}
use Rattle.lw_machine.proofs.Places.{Among}
use Rattle.lw_build.specs.Standing.{IsUntouched}
use Rattle.lw_build.specs.Telling.{numbered_places}
use Rattle.lw_build.proofs.Places.{among_at, among_push, map_push}
use Rattle.lw_build.proofs.News.{held_place, is_held}
use Rattle.lw_build.proofs.Enlisting.{enlisted_held, enlisted_here, enlisted_still}
use Rattle.lw_build.proofs.standing.Standing.enlist.Goals as goal

pub enlisting-preserved : goal.enlisting-preserved
enlisting-preserved c =
    let docs = c.args.docs.now in
    let turn = iter_turn deref_pair (numbered_places docs) c.enlisting.yielded c.into_iter-uri-iterator.result c.enlisting._uri-iterator c.next.new.self c.next.result
    (c.into_iter-uri-iterator.ensures.into_iter_gives ∙ c.uris-uri-items.ensures.rest) c.enlisting.yielded_by (c.in-Some._uri, c.in-Some.d) c.in-Some.is c.next.ensures.steps in
    let held = is_held docs c.numbered.ensures c.in-Some._uri.now c.in-Some.d.now (among_at (numbered_places docs) _ _ turn.1) in
    record {
      next = tt;
      finite = tt;
      held = enlisted_held docs c.enlisting.self (record c.enlisting.self { untouched = c.insert.new.self }) c.in-Some.d.now.0 c.in_ok-insert.ensures.updates c.enlisting.invariant.held held;
      all = λ p there.
          elim (among_push (map deref_pair c.enlisting.yielded) (c.in-Some._uri.now, c.in-Some.d.now) p
          (subst (Among p) (map_push deref_pair c.enlisting.yielded (c.in-Some._uri, c.in-Some.d)) there)) [
            | inl old ↦ enlisted_still docs c.enlisting.self (record c.enlisting.self { untouched = c.insert.new.self }) c.in-Some.d.now.0 c.in_ok-insert.ensures.updates p.1.0
                (c.enlisting.invariant.all p old)
            | inr new ↦ subst (λ (q : List ℕ × DocId). IsUntouched (record c.enlisting.self { untouched = c.insert.new.self }) q.1.0) new
                (enlisted_here docs c.enlisting.self (record c.enlisting.self { untouched = c.insert.new.self }) c.in-Some.d.now.0 c.in_ok-insert.ensures.updates)
          ];
    }

pub returns-clause-all : goal.returns-clause-all
returns-clause-all c address held at =
    let docs = c.args.docs.now in
    let end = iter_end deref_pair (numbered_places docs) c.enlisting.yielded c.into_iter-uri-iterator.result c.enlisting._uri-iterator c.next.new.self c.next.result
    (c.into_iter-uri-iterator.ensures.into_iter_gives ∙ c.uris-uri-items.ensures.rest) c.enlisting.yielded_by c.in-None.is c.next.ensures.steps in
    c.enlisting.invariant.all (address, held.number) (subst (Among (address, held.number)) (sym end.0) (held_place docs address held at))
