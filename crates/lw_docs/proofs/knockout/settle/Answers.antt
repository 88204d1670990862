use Rattle.std.proofs.Common.{◌≡◌, ◌+◌, ◌*◌, ◌<◌, ℕ, length, ◌-◌, ◌/◌, ◌⊎◌, inl, inr, set, sym, subst, ◌∙◌, arith}
use Rattle.std.proofs.lemmas.Bool.{cases_eq}
use Rattle.std.proofs.lemmas.List.{length-set}
use Rattle.lw_docs.specs.Knockout.{cell_at, best, IsKnockoutBut}
use Rattle.lw_docs.proofs.Cells.{one_written}
use Rattle.lw_docs.proofs.knockout.settle.Goals as goal

halves : (n : ℕ) → (n ≡ 2 * (n / 2)) ⊎ (n ≡ 2 * (n / 2) + 1)
halves n = elim (cases_eq n (2 * (n / 2))) [ inl even ↦ inl even | inr odd ↦ inr (omega (arith, odd)) ]

pub loop-rest-preserved : goal.loop-rest-preserved
loop-rest-preserved c =
    let cells = c.loop-rest.cells in
    let slots = c.args.slots.now in
    let place : ℕ = c.loop-rest.rest - 1 in
    let more : place + 1 ≡ c.loop-rest.rest = omega (arith, c.loop-rest-test.true) in
    let within : place < length cells = omega (arith, more, c.loop-rest.invariant.within) in
    let len : length (set cells place c.best_below.result) ≡ length cells = length-set cells place c.best_below.result in
    let halved : (place + 1 ≡ 2 * (c.loop-rest.rest / 2)) ⊎ (place + 1 ≡ 2 * (c.loop-rest.rest / 2) + 1) =
    elim (halves c.loop-rest.rest) [ inl e ↦ inl (more ∙ e) | inr e ↦ inr (more ∙ e) ] in
    let others : IsKnockoutBut slots cells place = λ p less away. c.loop-rest.invariant.others p less (λ e. away (omega (arith, e, more))) in
    record {
      within = omega (arith, len, within, more);
      len = len ∙ c.loop-rest.invariant.len;
      others = λ p less other. subst (λ found. cell_at (set cells place found) p ≡ best slots (set cells place found) p) (sym c.best_below.ensures)
          (one_written slots cells place (c.loop-rest.rest / 2) within halved others p (omega (arith, len, less)) other);
    }
