use Rattle.std.proofs.Common.{◌↔◌, ◌≡◌, ℕ, List, [], Contains, Some, sym, ◌∙◌, subst, inl, inr}
use Rattle.std.proofs.lemmas.Result.{IfOk-weaker}
use Rattle.lw_flow.specs.declared.effect.Effect.TheVariants.{Nothing}
use Rattle.lw_flow.specs.declared.effect.Mark.TheVariants.{Done}
use Rattle.lw_flow.specs.Entries.{type_of}
use Rattle.lw_flow.proofs.DoingLemmas.{via}
use Rattle.lw_flow.proofs.SetLemmas.{adds_step, adds_end, nothing_in}
use Rattle.lw_flow.proofs.entries.type_numbers.Goals as goal

pub loop-mark-preserved : goal.loop-mark-preserved
loop-mark-preserved c =
    adds_step (λ m (n : ℕ). type_of m ≡ Some n) [] c.loop-mark.numbers.keys c.put_number.new.numbers.keys c.args.marks.now c.loop-mark.mark-index (Done Nothing)
    c.loop-mark-test.true c.loop-mark.invariant (λ n. via (c.in_ok-put_number.ensures n) (
      λ either. elim either [ inl was ↦ inl was | inr is ↦ inr (sym c.rule_type.ensures ∙ is) ],
      λ either. elim either [ inl was ↦ inl was | inr is ↦ inr (c.rule_type.ensures ∙ is) ],
    ))

pub returns-clause-exact : goal.returns-clause-exact
returns-clause-exact c =
    let all = adds_end (λ m (n : ℕ). type_of m ≡ Some n) [] c.loop-mark.numbers.keys c.args.marks.now c.loop-mark.mark-index c.loop-mark-test.false c.loop-mark.invariant in
    IfOk-weaker c.ascending.result _ _ (λ list is n.
    via (subst (λ (keys : List ℕ). Contains list.items n ↔ Contains keys n) is (λ has. has, λ has. has)) (via (all n) (
      λ either. elim either [ inl none ↦ absurd (nothing_in n none) | inr has ↦ has ],
      λ has. inr has,
    ))) c.ascending.ensures.items
