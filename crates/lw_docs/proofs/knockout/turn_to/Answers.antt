use Rattle.std.proofs.Common.{◌≡◌, ℕ, ◌<◌, List, [], length, set, get_or, Option, Some, None, refl, sym, ap, subst, ◌∙◌, arith}
use Rattle.std.specs.Option.{option_map_or}
use Rattle.std.proofs.lemmas.List.{get_or-set_same, get_or-set_other, get_or_default, set-get_or}
use Rattle.lw_docs.specs.declared.doc.Doc.{Doc}
use Rattle.lw_docs.specs.Table.{doc_in}
use Rattle.lw_docs.specs.Knockout.{IsKnockout, IsKnockoutBut}
use Rattle.lw_docs.proofs.Cells.{Slots, Cells, knockout_turned}
use Rattle.lw_docs.proofs.knockout.turn_to.Goals as goal
use Rattle.lw_docs.proofs.knockout.turn_to.Goals.{in-Some, in_default}

module _ (slots after : Slots) (cells : Cells) (number : ℕ) (within : number < length slots) (all : IsKnockout slots cells) where
  by_turn : (x y : Doc) (d : Option Doc) → y.uri ≡ x.uri → get_or slots number d ≡ Some x → after ≡ set slots number (Some y) → IsKnockoutBut after cells number
  by_turn x y d uri is turns =
      let before : doc_in slots number ≡ Some x = get_or_default slots number None d within ∙ is in
      let now : doc_in after number ≡ Some y = ap (λ s. doc_in s number) turns ∙ get_or-set_same slots number (Some y) None within in
      let address : Option Doc → List ℕ = λ o. option_map_or (λ (x : Doc). x.uri) o [] in
      knockout_turned slots after cells number (λ n away. ap (λ s. doc_in s n) turns ∙ get_or-set_other slots number n (Some y) None away)
      (ap address now ∙ uri ∙ sym (ap address before)) all

  by_none : (d : Option Doc) → after ≡ set slots number (get_or slots number d) → IsKnockoutBut after cells number
  by_none d stays =
      let same : after ≡ slots = stays ∙ set-get_or slots number d in
      λ place less _. subst (λ s. IsKnockout s cells) (sym same) all place less

pub settle-requires-clause-others : goal.settle-requires-clause-others
settle-requires-clause-others c =
    let within : c.args.number < length c.args.slots.now = omega (arith, c.requires.within, c.requires.len) in
    elim c.match-slots-number.branch [
      | in-Some w ↦ by_turn c.args.slots.now c.match-slots-number.slots c.args.cells.now c.args.number within c.requires.all
          w.in-Some.doc _ c.index-slots-number.result refl w.in-Some.is w.slots-is
      | in_default w ↦ by_none c.args.slots.now c.match-slots-number.slots c.args.cells.now c.args.number within c.requires.all c.index-slots-number.result w.slots-is
    ]
