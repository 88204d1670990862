use Rattle.std.proofs.Common.{◌↔◌, ◌⊎◌, ◌≡◌, ℕ, List, Contains, Some, sym, ap, ◌∙◌, subst, inl, inr}
use Rattle.std.proofs.lemmas.Option.{same_Some}
use Rattle.lw_flow.proofs.DoingLemmas.{via}
use Rattle.lw_flow.proofs.EntryLemmas.{in_sorted_key}
use Rattle.lw_flow.proofs.entries.put_number.Goals as goal

pub returns-in_ok-insert : goal.returns-in_ok-insert
returns-in_ok-insert c n =
    let old = c.args.numbers.now.keys in
    subst (λ (keys : List ℕ). Contains keys n ↔ (Contains old n ⊎ (c.args.number ≡ Some n))) (sym c.in_ok-insert.ensures.keys)
    (via (in_sorted_key old c.in-Some.number n) (
      λ either. elim either [ inl was ↦ inl was | inr is ↦ inr (c.in-Some.is ∙ ap Some (sym is)) ],
      λ either. elim either [ inl was ↦ inl was | inr is ↦ inr (same_Some n c.in-Some.number (sym is ∙ c.in-Some.is)) ],
    ))
