use Rattle.std.proofs.Common.{◌≡◌, List, [], ℕ, Some, map, option_map, refl, sym, ap, subst, ◌∙◌}
use Rattle.std.specs.FinMap.{get}
use Rattle.std.specs.List.{AllZip}
use Rattle.std.specs.Map.Iter.{deref_pair}
use Rattle.std.proofs.lemmas.Map.Iter.{iter_turn, iter_end}
use Rattle.lw_base.specs.declared.numbers.DocId.{DocId}
use Rattle.lw_docs.specs.Documents.{Numbered, numbered}
use Rattle.lw_query.specs.declared.view.View.{View}
use Rattle.lw_build.specs.Seen.{IsViewOf}
use Rattle.lw_build.specs.Telling.{numbered_places}
use Rattle.lw_build.proofs.Places.{among_at, map_push}
use Rattle.lw_build.proofs.News.{is_held, place_held}
use Rattle.lw_build.proofs.Views.{views_more}
use Rattle.lw_build.proofs.seen.views_of.Goals as goal

pub viewing-init : goal.viewing-init
viewing-init c = record {
  next = tt;
  finite = tt;
  views = subst (λ (views : List View). AllZip (IsViewOf c.args.docs.now c.args.readings.now c.args.refs.now) [] views) (sym c.new-views.ensures.items) tt;
}

pub doc-doc-requires : goal.doc-doc-requires
doc-doc-requires c =
    let turn = iter_turn deref_pair (numbered_places c.args.docs.now) c.viewing.yielded c.into_iter-uri-iterator.result c.viewing._uri-iterator c.next.new.self c.next.result
    (c.into_iter-uri-iterator.ensures.into_iter_gives ∙ c.uris-uri-items.ensures.rest) c.viewing.yielded_by (c.in-Some._uri, c.in-Some.d) c.in-Some.is c.next.ensures.steps in
    is_held c.args.docs.now c.numbered.ensures c.in-Some._uri.now c.in-Some.d.now (among_at (numbered_places c.args.docs.now) _ _ turn.1)

pub viewing-preserved : goal.viewing-preserved
viewing-preserved c =
    let docs = c.args.docs.now in
    let turn = iter_turn deref_pair (numbered_places docs) c.viewing.yielded c.into_iter-uri-iterator.result c.viewing._uri-iterator c.next.new.self c.next.result
    (c.into_iter-uri-iterator.ensures.into_iter_gives ∙ c.uris-uri-items.ensures.rest) c.viewing.yielded_by (c.in-Some._uri, c.in-Some.d) c.in-Some.is c.next.ensures.steps in
    let (held, at, same) = place_held docs c.in-Some._uri.now c.in-Some.d.now (among_at (numbered_places docs) _ _ turn.1) in
    let doc = c.doc-doc.result.now in
    let uri : doc.uri ≡ c.in-Some._uri.now =
    c.numbered.ensures.apart doc.uri c.in-Some._uri.now (numbered c.in-Some.d.now doc) held c.doc-doc.ensures at (sym same) in
    let here = ap (get docs) (sym uri) ∙ c.doc-doc.ensures in
    record {
      next = tt;
      finite = tt;
      views = subst (λ (places : List (List ℕ × DocId)). AllZip (IsViewOf docs c.args.readings.now c.args.refs.now) places c.push.new.self.items)
          (sym (map_push deref_pair c.viewing.yielded (c.in-Some._uri, c.in-Some.d)))
          (views_more docs c.args.readings.now c.args.refs.now (map deref_pair c.viewing.yielded) c.viewing.views.items c.push.new.self.items
          (c.in-Some._uri.now, c.in-Some.d.now) _ c.in_ok-push.ensures.items c.viewing.invariant.views (record {
            number = refl;
            address = uri;
            stands = ap (option_map (λ (h : Numbered). h.number.0)) here;
            text = ap (option_map (λ (h : Numbered). h.doc.text)) here ∙ ap Some (sym c.as_name.ensures.text);
            tree = c.tree.ensures;
            answers = c.answers.ensures;
          }));
    }

pub returns : goal.returns
returns c =
    let end = iter_end deref_pair (numbered_places c.args.docs.now) c.viewing.yielded c.into_iter-uri-iterator.result c.viewing._uri-iterator c.next.new.self c.next.result
    (c.into_iter-uri-iterator.ensures.into_iter_gives ∙ c.uris-uri-items.ensures.rest) c.viewing.yielded_by c.in-None.is c.next.ensures.steps in
    subst (λ (places : List (List ℕ × DocId)). AllZip (IsViewOf c.args.docs.now c.args.readings.now c.args.refs.now) places c.viewing.views.items) end.0
    c.viewing.invariant.views
