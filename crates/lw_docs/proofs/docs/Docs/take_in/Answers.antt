use Rattle.std.proofs.Common.{◌≡◌, ◌≢◌, ◌+◌, ◌-◌, ℕ, List, length, take, set, cond, Option, Some, None, refl, sym, ap, subst, ◌∙◌, arith}
use Rattle.lw_docs.specs.declared.doc.Doc.{Doc}
use Rattle.std.specs.BTreeMap as tree
use Rattle.std.specs.BTreeMap.{btree_map_len}
use Rattle.std.specs.FinMap as all
use Rattle.std.specs.Option.{is_some}
use Rattle.std.specs.Ordering.{eq_by_cmp}
use Rattle.std.proofs.lemmas.List.{length-take-le}
use Rattle.lw_base.specs.declared.numbers.DocId.{DocId}
use Rattle.lw_docs.specs.Documents.{changed, numbered}
use Rattle.lw_docs.specs.Knockout.{IsKnockout, IsKnockoutBut}
use Rattle.lw_docs.proofs.Callers.{came_held}
use Rattle.lw_docs.proofs.Keeping.{is_doc, kept_as, put_over, vacant, new_but, new_held, new_kept}
use Rattle.lw_docs.proofs.View.{address_cmp, held_alike, held_len, named_alike, none_at, no_doc}
use Rattle.lw_docs.proofs.docs.Docs.take_in.Goals as goal

pub spare_number-requires-clause-few : goal.spare_number-requires-clause-few
spare_number-requires-clause-few c =
    let s = c.self.inside in
    let long : all.len c.args.self.now ≡ length s.numbers.entries = sym (ap all.len c.self.view_is) ∙ held_len s.slots.items s.numbers c.self.invariant.names.ordered in
    let room : length s.numbers.entries ≢ 65536 = λ e. c.requires.room (long ∙ e) in
    let counted = c.self.invariant.counted in
    let few = c.self.invariant.few in
    omega (arith, room, counted, few)

pub settle-requires-clause-others : goal.settle-requires-clause-others
settle-requires-clause-others c =
    let s = c.self.inside in
    let slots = c.spare_number.new.slots.items in
    let spare = c.spare_number.new.spare.items in
    let cells = c.spare_number.new.cells.items in
    let number = c.in_ok-number.number in
    let names = named_alike s.slots.items slots s.numbers c.self.invariant.names c.spare_number.ensures.docs in
    let y : Doc = changed c.args.uri c.args.text c.args.version c.args.is_open in
    let last = c.in_ok-number.ensures.last in
    subst (λ l. IsKnockoutBut l c.as_mut_slice.result.now number) (sym c.as_slice.ensures.value)
    (subst (λ k. IsKnockoutBut (set slots number (Some y)) k number) (sym c.as_mut_slice.ensures.value)
    (new_but slots s.numbers names spare c.spare_number.ensures.spares cells c.spare_number.ensures.knockout number last.0 last.1 y))

pub invariant_of-self-2 : goal.invariant_of-self-2
invariant_of-self-2 c =
    let s = c.self.inside in
    let slots = c.spare_number.new.slots.items in
    let spare = c.spare_number.new.spare.items in
    let cells = c.spare_number.new.cells.items in
    let number = c.in_ok-number.number in
    let names = named_alike s.slots.items slots s.numbers c.self.invariant.names c.spare_number.ensures.docs in
    let y : Doc = changed c.args.uri c.args.text c.args.version c.args.is_open in
    let last = c.in_ok-number.ensures.last in
    let later = c.insert.new.self in
    let absent : tree.get address_cmp s.numbers c.args.uri ≡ None =
    none_at s.slots.items s.numbers c.self.invariant.names.ordered c.args.uri (ap (λ v. all.get v c.args.uri) c.self.view_is ∙ c.requires.vacant) in
    let at : (q : List ℕ) → tree.get address_cmp later q ≡ cond (eq_by_cmp address_cmp c.args.uri q) (Some (record { 0 = number })) (tree.get address_cmp s.numbers q) =
    λ q. c.in_ok-insert.ensures.updates.0 q ∙ ap (λ u. cond (eq_by_cmp address_cmp u q) (Some (record { 0 = number })) (tree.get address_cmp s.numbers q)) c.in_ok-key.ensures in
    let even : length c.settle.new.cells ≡ length cells = c.settle.ensures.len ∙ ap length c.as_mut_slice.ensures.value in
    let won : IsKnockout (set slots number (Some y)) c.settle.new.cells = subst (λ l. IsKnockout l c.settle.new.cells) c.as_slice.ensures.value c.settle.ensures.all in
    let rest : c.pop.new.self.items ≡ take (length spare - 1) spare = c.pop.ensures.rest ∙ ap (λ n. take (n - 1) spare) c.spare_number.new.spare.ok.0 in
    let some = last.0 in
    let left : length c.pop.new.self.items ≡ length spare - 1 = ap length rest ∙ length-take-le (length spare - 1) spare (omega arith) in
    let more : btree_map_len later ≡ btree_map_len s.numbers + 1 = c.in_ok-insert.ensures.len
    ∙ ap (λ (o : Option DocId). btree_map_len s.numbers + cond (is_some o) 0 1) (c.in_ok-insert.ensures.old ∙ ap (tree.get address_cmp s.numbers) c.in_ok-key.ensures ∙ absent) in
    let one = c.self.invariant.counted in
    let two = c.spare_number.ensures.counted in
    kept_as (set slots number (Some y)) _ c.pop.new.self.items _ _ _ c.settle.new.cells _ later refl refl c.pop.ensures.capacity
    (put_over c.spare_number.new.cells.len c.settle.new.cells cells c.spare_number.new.cells.ok.0 even)
    (new_kept slots s.numbers names spare c.spare_number.ensures.spares cells c.spare_number.ensures.knockout number last.0 last.1 y later c.insert.ensures.ordered absent at
    c.pop.new.self.items _ c.settle.new.cells rest won (even ∙ c.spare_number.ensures.places) (omega (arith, left, more, one, two, some)) c.spare_number.ensures.roomy
    (c.spare_number.ensures.few c.self.invariant.few))

pub returns-clause-added : goal.returns-clause-added
returns-clause-added c =
    let s = c.self.inside in
    let slots = c.spare_number.new.slots.items in
    let spare = c.spare_number.new.spare.items in
    let cells = c.spare_number.new.cells.items in
    let number = c.in_ok-number.number in
    let names = named_alike s.slots.items slots s.numbers c.self.invariant.names c.spare_number.ensures.docs in
    let y : Doc = changed c.args.uri c.args.text c.args.version c.args.is_open in
    let last = c.in_ok-number.ensures.last in
    let later = c.insert.new.self in
    let absent : tree.get address_cmp s.numbers c.args.uri ≡ None =
    none_at s.slots.items s.numbers c.self.invariant.names.ordered c.args.uri (ap (λ v. all.get v c.args.uri) c.self.view_is ∙ c.requires.vacant) in
    let at : (q : List ℕ) → tree.get address_cmp later q ≡ cond (eq_by_cmp address_cmp c.args.uri q) (Some (record { 0 = number })) (tree.get address_cmp s.numbers q) =
    λ q. c.in_ok-insert.ensures.updates.0 q ∙ ap (λ u. cond (eq_by_cmp address_cmp u q) (Some (record { 0 = number })) (tree.get address_cmp s.numbers q)) c.in_ok-key.ensures in
    new_held slots s.numbers names spare c.spare_number.ensures.spares cells c.spare_number.ensures.knockout number last.0 last.1 y later c.insert.ensures.ordered absent at
    ∙ ap (λ v. all.insert v c.args.uri (numbered (record { 0 = number }) y)) (held_alike s.slots.items slots s.numbers c.self.invariant.names.ordered c.spare_number.ensures.docs ∙ c.self.view_is)

pub returns-clause-held : goal.returns-clause-held
returns-clause-held c =
    let y : Doc = changed c.args.uri c.args.text c.args.version c.args.is_open in
    (y, came_held c.args.self.now _ (record { 0 = c.in_ok-number.number }) y (returns-clause-added c))

pub returns-clause-fresh : goal.returns-clause-fresh
returns-clause-fresh c (x, at) =
    let s = c.self.inside in
    let slots = c.spare_number.new.slots.items in
    let spare = c.spare_number.new.spare.items in
    let cells = c.spare_number.new.cells.items in
    let number = c.in_ok-number.number in
    let names = named_alike s.slots.items slots s.numbers c.self.invariant.names c.spare_number.ensures.docs in
    let y : Doc = changed c.args.uri c.args.text c.args.version c.args.is_open in
    let last = c.in_ok-number.ensures.last in
    no_doc x (sym (vacant slots s.numbers names spare c.spare_number.ensures.spares cells c.spare_number.ensures.knockout number last.0 last.1) ∙ c.spare_number.ensures.docs number
    ∙ is_doc s.slots.items s.spare.items _ s.cells.items s.numbers c.self.invariant c.args.self.now c.self.view_is (record { 0 = number }) x at)
