use Rattle.std.proofs.Common.{◌≡◌, List, [], ◌∷◌, ◌++◌, length, Contains, append_assoc, refl, rules, sym, ap, subst, ◌∙◌, arith}
use Rattle.std.specs.FinMap.{get}
use Rattle.lw_base.specs.declared.numbers.DocId.{DocId}
use Rattle.lw_machine.proofs.Finite.{behind, here}
use Rattle.lw_text.specs.declared.shown.Shown.{Shown}
use Rattle.lw_build.specs.Telling.{IsListTaken}
use Rattle.lw_build.proofs.Places.{with_nothing}
use Rattle.lw_build.proofs.News.{held_still, nothing_taken, taken_more}
use Rattle.lw_build.proofs.telling.take_all.Goals as goal

empty : {A : Type 0} (xs : List A) → length xs ≡ 0 → xs ≡ []
empty [] is = refl
empty (x ∷ xs) is = absurd (omega (arith, is))

pub taking-init : goal.taking-init
taking-init c = record { next = tt; finite = tt; left = search rules; taken = λ address. nothing_taken (get c.args.docs.now address) }

pub set_published-requires : goal.set_published-requires
set_published-requires c =
    held_still c.taking.yielded c.args.docs.now c.taking.docs c.taking.invariant.taken c.in-Some.d
    (c.requires.held c.in-Some.d c.in-Some.list
    (subst (λ (es : List (DocId × List Shown)). Contains es (c.in-Some.d, c.in-Some.list)) c.taking.invariant.left
    (behind c.taking.yielded c.taking.d-iterator.rest.items (c.in-Some.d, c.in-Some.list)
    (subst (λ (es : List (DocId × List Shown)). Contains es (c.in-Some.d, c.in-Some.list)) (sym c.in-Some.ensures.steps.0)
    (here (c.in-Some.d, c.in-Some.list) c.next.new.self.rest.items)))))

pub taking-preserved : goal.taking-preserved
taking-preserved c = record {
  next = tt;
  finite = tt;
  left = append_assoc c.taking.yielded ((c.in-Some.d, c.in-Some.list) ∷ []) c.next.new.self.rest.items
      ∙ ap (λ (es : List (DocId × List Shown)). c.taking.yielded ++ es) (sym c.in-Some.ensures.steps.0) ∙ c.taking.invariant.left;
  taken = taken_more c.taking.yielded c.in-Some.d c.in-Some.list c.args.docs.now c.taking.docs c.set_published.new.self c.requires.numbered c.taking.invariant.taken
      (held_still c.taking.yielded c.args.docs.now c.taking.docs c.taking.invariant.taken c.in-Some.d
      (c.requires.held c.in-Some.d c.in-Some.list
      (subst (λ (es : List (DocId × List Shown)). Contains es (c.in-Some.d, c.in-Some.list)) c.taking.invariant.left
      (behind c.taking.yielded c.taking.d-iterator.rest.items (c.in-Some.d, c.in-Some.list)
      (subst (λ (es : List (DocId × List Shown)). Contains es (c.in-Some.d, c.in-Some.list)) (sym c.in-Some.ensures.steps.0)
      (here (c.in-Some.d, c.in-Some.list) c.next.new.self.rest.items)))))) c.set_published.ensures;
}

pub returns : goal.returns
returns c address =
    let left = empty c.taking.d-iterator.rest.items (sym c.taking.d-iterator.rest.ok.0 ∙ c.in-None.ensures.steps.0) in
    let all = sym (with_nothing c.taking.yielded) ∙ ap (λ (es : List (DocId × List Shown)). c.taking.yielded ++ es) (sym left) ∙ c.taking.invariant.left in
    subst (λ (es : List (DocId × List Shown)). IsListTaken es (get c.args.docs.now address) (get c.taking.docs address)) all (c.taking.invariant.taken address)
