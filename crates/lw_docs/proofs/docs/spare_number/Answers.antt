use Rattle.std.proofs.Common.{◌≡◌, ◌+◌, ℕ, [], ◌∷◌, ◌++◌, length, None, sym, ap, subst, ◌∙◌, arith, length-append}
use Rattle.std.proofs.lemmas.List.{get_or_past}
use Rattle.lw_docs.specs.Table.{doc_in, AreSpare}
use Rattle.lw_docs.specs.Knockout.{IsKnockout}
use Rattle.lw_docs.proofs.Cells.{Slots, doc_push, knockout_push}
use Rattle.lw_docs.proofs.Spares.{spare_more}
use Rattle.lw_docs.proofs.docs.spare_number.Goals as goal

pub returns-clause-knockout : goal.returns-clause-knockout
returns-clause-knockout c =
    let slots : c.push_reserved.new.self.items ≡ c.args.slots.now.items ++ None ∷ [] = c.push_reserved.ensures.items ∙ ap (λ l. l ++ None ∷ []) c.reserve.ensures.items in
    let cells : c.push_reserved-2.new.self.items ≡ c.args.cells.now.items ++ None ∷ [] = c.push_reserved-2.ensures.items ∙ ap (λ l. l ++ None ∷ []) c.reserve-2.ensures.items in
    subst (λ s. IsKnockout s c.push_reserved-2.new.self.items) (sym slots) (subst (IsKnockout (c.args.slots.now.items ++ None ∷ [])) (sym cells)
    (knockout_push c.args.slots.now.items c.args.cells.now.items (sym c.requires.places) c.requires.knockout))

pub returns-clause-spares : goal.returns-clause-spares
returns-clause-spares c =
    let old : Slots = c.args.slots.now.items in
    let number : ℕ = c.len-number.result in
    let number_is : number ≡ length old = c.len-number.ensures ∙ c.args.slots.now.ok.0 in
    let slots : c.push_reserved.new.self.items ≡ old ++ None ∷ [] = c.push_reserved.ensures.items ∙ ap (λ l. l ++ None ∷ []) c.reserve.ensures.items in
    let spare : c.push_reserved-3.new.self.items ≡ c.args.spare.now.items ++ number ∷ [] = c.push_reserved-3.ensures.items ∙ ap (λ l. l ++ number ∷ []) c.reserve-3.ensures.items in
    let more : length (old ++ None ∷ []) ≡ length old + 1 = length-append old (None ∷ []) in
    subst (λ s. AreSpare s c.push_reserved-3.new.self.items) (sym slots) (subst (AreSpare (old ++ None ∷ [])) (sym spare)
    (spare_more old (old ++ None ∷ []) c.args.spare.now.items number c.requires.spares (λ i less same. let h = c.requires.spares.within i less in omega (arith, h, same, number_is))
    (λ n _. doc_push old n) (doc_push old number ∙ get_or_past old number None (omega (arith, number_is))) (omega (arith, more, number_is)) (omega (arith, more))))

pub returns-clause-docs : goal.returns-clause-docs
returns-clause-docs c n =
    ap (λ s. doc_in s n) (c.push_reserved.ensures.items ∙ ap (λ l. l ++ None ∷ []) c.reserve.ensures.items) ∙ doc_push c.args.slots.now.items n
