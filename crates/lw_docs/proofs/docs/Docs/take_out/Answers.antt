use Rattle.std.proofs.Common.{◌≡◌, ◌<◌, ◌+◌, ℕ, List, [], ◌∷◌, ◌++◌, length, set, cond, get_or, Option, Some, None, sym, ap, subst, ◌∙◌}
use Rattle.lw_docs.specs.declared.doc.Doc.{Doc}
use Rattle.std.specs.Prelude.{vec_capacity}
use Rattle.std.specs.BTreeMap as tree
use Rattle.std.specs.BTreeMap.{btree_map_len}
use Rattle.std.specs.FinMap as all
use Rattle.std.specs.Option.{is_some}
use Rattle.std.specs.Ordering.{eq_by_cmp}
use Rattle.std.proofs.lemmas.List.{get_or_default}
use Rattle.lw_base.specs.declared.numbers.DocId.{DocId}
use Rattle.lw_machine.specs.declared.state.State.TheVariants.{Validated}
use Rattle.lw_docs.specs.Documents.{IsAt}
use Rattle.lw_docs.specs.Table.{doc_in, held_in}
use Rattle.lw_docs.proofs.Spares.{SameBut}
use Rattle.lw_docs.proofs.Keeping.{in_range, is_doc, held_within, kept_as, put_over, read_doc, room_for_one, gone_held, gone_kept}
use Rattle.lw_docs.proofs.View.{address_cmp, no_doc}
use Rattle.lw_docs.proofs.docs.Docs.take_out.Goals as goal

pub turn_to-requires-clause-within : goal.turn_to-requires-clause-within
turn_to-requires-clause-within c =
    let s = c.self.inside in
    let within = held_within s.slots.items s.spare.items _ s.cells.items s.numbers c.self.invariant c.args.self.now c.self.view_is c.args.d c.requires in
    subst (λ n. c.args.d.0 < n) (sym (ap length c.as_mut_slice-2.ensures.value ∙ c.self.invariant.places)) within

pub index_mut-requires : goal.index_mut-requires
index_mut-requires c =
    let s = c.self.inside in
    subst (λ n. c.args.d.0 < n) (sym s.slots.ok.0) (held_within s.slots.items s.spare.items _ s.cells.items s.numbers c.self.invariant c.args.self.now c.self.view_is c.args.d c.requires)

pub unreachable-requires : goal.unreachable-requires
unreachable-requires c =
    let s = c.self.inside in
    let x : Doc = c.doc.result.now in
    let was = is_doc s.slots.items s.spare.items _ s.cells.items s.numbers c.self.invariant c.args.self.now c.self.view_is c.args.d x c.doc.ensures in
    let table : c.as_mut_slice.result.now ≡ s.slots.items = c.as_mut_slice.ensures.value in
    let here : doc_in c.turn_to.new.slots c.args.d.0 ≡ Some (record x { state = Validated }) = c.turn_to.ensures.here x (ap (λ l. doc_in l c.args.d.0) table ∙ was) in
    let others : SameBut c.args.d.0 s.slots.items c.turn_to.new.slots = λ n other. c.turn_to.ensures.others n other ∙ ap (λ l. doc_in l n) table in
    let long : length c.turn_to.new.slots ≡ length s.slots.items = c.turn_to.ensures.slots ∙ ap length table in
    let put = put_over s.slots.len c.turn_to.new.slots s.slots.items s.slots.ok.0 long in
    let read : get_or c.turn_to.new.slots c.args.d.0 c.index_mut.result.now ≡ None =
    sym (c.index_mut.ensures.value ∙ ap (λ l. get_or l c.args.d.0 c.index_mut.result.now) put) ∙ sym c.take.ensures.value ∙ c.in-None.is in
    no_doc (record x { state = Validated }) (sym read ∙ sym (get_or_default c.turn_to.new.slots c.args.d.0 None c.index_mut.result.now (in_range c.turn_to.new.slots c.args.d.0 (record x { state = Validated }) here)) ∙ here)

pub push_reserved-requires : goal.push_reserved-requires
push_reserved-requires c =
    let s = c.self.inside in
    let x : Doc = c.doc.result.now in
    let was = is_doc s.slots.items s.spare.items _ s.cells.items s.numbers c.self.invariant c.args.self.now c.self.view_is c.args.d x c.doc.ensures in
    let table : c.as_mut_slice.result.now ≡ s.slots.items = c.as_mut_slice.ensures.value in
    let here : doc_in c.turn_to.new.slots c.args.d.0 ≡ Some (record x { state = Validated }) = c.turn_to.ensures.here x (ap (λ l. doc_in l c.args.d.0) table ∙ was) in
    let others : SameBut c.args.d.0 s.slots.items c.turn_to.new.slots = λ n other. c.turn_to.ensures.others n other ∙ ap (λ l. doc_in l n) table in
    let long : length c.turn_to.new.slots ≡ length s.slots.items = c.turn_to.ensures.slots ∙ ap length table in
    let put = put_over s.slots.len c.turn_to.new.slots s.slots.items s.slots.ok.0 long in
    let read : get_or c.turn_to.new.slots c.args.d.0 c.index_mut.result.now ≡ Some c.in-Some.doc =
    sym (c.index_mut.ensures.value ∙ ap (λ l. get_or l c.args.d.0 c.index_mut.result.now) put) ∙ sym c.take.ensures.value ∙ c.in-Some.is in
    let same : c.in-Some.doc ≡ record x { state = Validated } = read_doc c.turn_to.new.slots c.args.d.0 (record x { state = Validated }) c.in-Some.doc c.index_mut.result.now here read in
    let uri : c.in-Some.doc.uri ≡ x.uri = ap (λ (v : Doc). v.uri) same in
    let even : length c.turn_to.new.cells ≡ length s.cells.items = c.turn_to.ensures.len ∙ ap length c.as_mut_slice-2.ensures.value in
    let at : (q : List ℕ) → tree.get address_cmp c.remove.new.self q ≡ cond (eq_by_cmp address_cmp x.uri q) None (tree.get address_cmp s.numbers q) =
    λ q. c.remove.ensures.updates.0 q ∙ ap (λ u. cond (eq_by_cmp address_cmp u q) None (tree.get address_cmp s.numbers q)) uri in
    let number : c.remove.result ≡ Some c.args.d = c.remove.ensures.value ∙ ap (tree.get address_cmp s.numbers) uri ∙ c.self.invariant.names.held c.args.d x was in
    let fewer : btree_map_len c.remove.new.self + 1 ≡ btree_map_len s.numbers =
    ap (λ (o : Option DocId). btree_map_len c.remove.new.self + cond (is_some o) 1 0) (sym number) ∙ c.remove.ensures.len in
    subst (λ n. n < vec_capacity s.spare) (sym s.spare.ok.0) (room_for_one s.slots.items s.spare.items _ s.cells.items s.numbers c.self.invariant c.args.d x was c.turn_to.new.slots c.turn_to.new.cells here others long c.turn_to.ensures.all even
    c.remove.new.self c.remove.ensures.ordered at fewer)

pub invariant_of-self : goal.invariant_of-self
invariant_of-self c =
    let s = c.self.inside in
    let x : Doc = c.doc.result.now in
    let was = is_doc s.slots.items s.spare.items _ s.cells.items s.numbers c.self.invariant c.args.self.now c.self.view_is c.args.d x c.doc.ensures in
    let table : c.as_mut_slice.result.now ≡ s.slots.items = c.as_mut_slice.ensures.value in
    let here : doc_in c.turn_to.new.slots c.args.d.0 ≡ Some (record x { state = Validated }) = c.turn_to.ensures.here x (ap (λ l. doc_in l c.args.d.0) table ∙ was) in
    let others : SameBut c.args.d.0 s.slots.items c.turn_to.new.slots = λ n other. c.turn_to.ensures.others n other ∙ ap (λ l. doc_in l n) table in
    let long : length c.turn_to.new.slots ≡ length s.slots.items = c.turn_to.ensures.slots ∙ ap length table in
    let put = put_over s.slots.len c.turn_to.new.slots s.slots.items s.slots.ok.0 long in
    let read : get_or c.turn_to.new.slots c.args.d.0 c.index_mut.result.now ≡ Some c.in-Some.doc =
    sym (c.index_mut.ensures.value ∙ ap (λ l. get_or l c.args.d.0 c.index_mut.result.now) put) ∙ sym c.take.ensures.value ∙ c.in-Some.is in
    let same : c.in-Some.doc ≡ record x { state = Validated } = read_doc c.turn_to.new.slots c.args.d.0 (record x { state = Validated }) c.in-Some.doc c.index_mut.result.now here read in
    let uri : c.in-Some.doc.uri ≡ x.uri = ap (λ (v : Doc). v.uri) same in
    let even : length c.turn_to.new.cells ≡ length s.cells.items = c.turn_to.ensures.len ∙ ap length c.as_mut_slice-2.ensures.value in
    let at : (q : List ℕ) → tree.get address_cmp c.remove.new.self q ≡ cond (eq_by_cmp address_cmp x.uri q) None (tree.get address_cmp s.numbers q) =
    λ q. c.remove.ensures.updates.0 q ∙ ap (λ u. cond (eq_by_cmp address_cmp u q) None (tree.get address_cmp s.numbers q)) uri in
    let number : c.remove.result ≡ Some c.args.d = c.remove.ensures.value ∙ ap (tree.get address_cmp s.numbers) uri ∙ c.self.invariant.names.held c.args.d x was in
    let fewer : btree_map_len c.remove.new.self + 1 ≡ btree_map_len s.numbers =
    ap (λ (o : Option DocId). btree_map_len c.remove.new.self + cond (is_some o) 1 0) (sym number) ∙ c.remove.ensures.len in
    kept_as (set c.turn_to.new.slots c.args.d.0 None) _ (s.spare.items ++ c.args.d.0 ∷ []) _ _ _ c.turn_to.new.cells _ c.remove.new.self
    (λ i. set (put i) c.args.d.0 (c.take.ensures.after i)) c.push_reserved.ensures.items c.push_reserved.ensures.capacity
    (put_over s.cells.len c.turn_to.new.cells s.cells.items s.cells.ok.0 even)
    (gone_kept s.slots.items s.spare.items _ s.cells.items s.numbers c.self.invariant c.args.d x was c.turn_to.new.slots c.turn_to.new.cells here others long c.turn_to.ensures.all even
    c.remove.new.self c.remove.ensures.ordered at fewer)

pub returns-clause-doc : goal.returns-clause-doc
returns-clause-doc c =
    let s = c.self.inside in
    let x : Doc = c.doc.result.now in
    let was = is_doc s.slots.items s.spare.items _ s.cells.items s.numbers c.self.invariant c.args.self.now c.self.view_is c.args.d x c.doc.ensures in
    let table : c.as_mut_slice.result.now ≡ s.slots.items = c.as_mut_slice.ensures.value in
    let here : doc_in c.turn_to.new.slots c.args.d.0 ≡ Some (record x { state = Validated }) = c.turn_to.ensures.here x (ap (λ l. doc_in l c.args.d.0) table ∙ was) in
    let others : SameBut c.args.d.0 s.slots.items c.turn_to.new.slots = λ n other. c.turn_to.ensures.others n other ∙ ap (λ l. doc_in l n) table in
    let long : length c.turn_to.new.slots ≡ length s.slots.items = c.turn_to.ensures.slots ∙ ap length table in
    let put = put_over s.slots.len c.turn_to.new.slots s.slots.items s.slots.ok.0 long in
    let read : get_or c.turn_to.new.slots c.args.d.0 c.index_mut.result.now ≡ Some c.in-Some.doc =
    sym (c.index_mut.ensures.value ∙ ap (λ l. get_or l c.args.d.0 c.index_mut.result.now) put) ∙ sym c.take.ensures.value ∙ c.in-Some.is in
    let same : c.in-Some.doc ≡ record x { state = Validated } = read_doc c.turn_to.new.slots c.args.d.0 (record x { state = Validated }) c.in-Some.doc c.index_mut.result.now here read in
    let own : record c.in-Some.doc { state = x.state } ≡ x = ap (λ (v : Doc). record v { state = x.state }) same in
    subst (IsAt c.args.self.now c.args.d) (sym own) c.doc.ensures

pub returns-clause-gone : goal.returns-clause-gone
returns-clause-gone c =
    let s = c.self.inside in
    let x : Doc = c.doc.result.now in
    let was = is_doc s.slots.items s.spare.items _ s.cells.items s.numbers c.self.invariant c.args.self.now c.self.view_is c.args.d x c.doc.ensures in
    let table : c.as_mut_slice.result.now ≡ s.slots.items = c.as_mut_slice.ensures.value in
    let here : doc_in c.turn_to.new.slots c.args.d.0 ≡ Some (record x { state = Validated }) = c.turn_to.ensures.here x (ap (λ l. doc_in l c.args.d.0) table ∙ was) in
    let others : SameBut c.args.d.0 s.slots.items c.turn_to.new.slots = λ n other. c.turn_to.ensures.others n other ∙ ap (λ l. doc_in l n) table in
    let long : length c.turn_to.new.slots ≡ length s.slots.items = c.turn_to.ensures.slots ∙ ap length table in
    let put = put_over s.slots.len c.turn_to.new.slots s.slots.items s.slots.ok.0 long in
    let read : get_or c.turn_to.new.slots c.args.d.0 c.index_mut.result.now ≡ Some c.in-Some.doc =
    sym (c.index_mut.ensures.value ∙ ap (λ l. get_or l c.args.d.0 c.index_mut.result.now) put) ∙ sym c.take.ensures.value ∙ c.in-Some.is in
    let same : c.in-Some.doc ≡ record x { state = Validated } = read_doc c.turn_to.new.slots c.args.d.0 (record x { state = Validated }) c.in-Some.doc c.index_mut.result.now here read in
    let uri : c.in-Some.doc.uri ≡ x.uri = ap (λ (v : Doc). v.uri) same in
    let even : length c.turn_to.new.cells ≡ length s.cells.items = c.turn_to.ensures.len ∙ ap length c.as_mut_slice-2.ensures.value in
    let at : (q : List ℕ) → tree.get address_cmp c.remove.new.self q ≡ cond (eq_by_cmp address_cmp x.uri q) None (tree.get address_cmp s.numbers q) =
    λ q. c.remove.ensures.updates.0 q ∙ ap (λ u. cond (eq_by_cmp address_cmp u q) None (tree.get address_cmp s.numbers q)) uri in
    let number : c.remove.result ≡ Some c.args.d = c.remove.ensures.value ∙ ap (tree.get address_cmp s.numbers) uri ∙ c.self.invariant.names.held c.args.d x was in
    let fewer : btree_map_len c.remove.new.self + 1 ≡ btree_map_len s.numbers =
    ap (λ (o : Option DocId). btree_map_len c.remove.new.self + cond (is_some o) 1 0) (sym number) ∙ c.remove.ensures.len in
    (λ i. held_in (set (put i) c.args.d.0 (c.take.ensures.after i)) c.remove.new.self)
    ∙ gone_held s.slots.items s.spare.items _ s.cells.items s.numbers c.self.invariant c.args.d x was c.turn_to.new.slots c.turn_to.new.cells here others long c.turn_to.ensures.all even
    c.remove.new.self c.remove.ensures.ordered at fewer
    ∙ (λ i. all.remove (c.self.view_is i) (sym uri i))
