use Rattle.std.proofs.Common.{◌↔◌, ◌⊎◌, ◌≡◌, List, Contains, get_or, sym, ap, subst, true≢false, ◌∙◌}
use Rattle.lw_flow.specs.declared.effect.Effect.TheVariants.{Nothing}
use Rattle.lw_flow.specs.declared.effect.Mark.{Mark}
use Rattle.lw_flow.specs.declared.effect.Mark.TheVariants.{Done}
use Rattle.lw_flow.specs.Sets.{Stays}
use Rattle.lw_flow.proofs.SetLemmas.{adds_step, adds_end, nothing_new, something_new}
use Rattle.lw_flow.proofs.sets.put_staying.Goals as goal
use Rattle.lw_flow.proofs.sets.put_staying.Goals.{then-stays+in_ok-put_mark, else-stays}

pub loop-mark-preserved : goal.loop-mark-preserved
loop-mark-preserved c =
    let old = c.args.set.now.keys in
    let mid = c.loop-mark.set.keys in
    let ms = c.args.marks.now in
    let i = c.loop-mark.mark-index in
    let n = get_or ms i (Done Nothing) in
    let P = λ (n : Mark) (m : Mark). (m ≡ n) × Stays n c.args.weight in
    adds_step P old mid c.if-stays.set.keys ms i (Done Nothing) c.loop-mark-test.true c.loop-mark.invariant (elim c.if-stays.branch [
      | then-stays+in_ok-put_mark w ↦
          subst (λ (keys : List Mark). (m : Mark) → Contains keys m ↔ (Contains mid m ⊎ ((m ≡ n) × Stays n c.args.weight))) (sym (ap (λ set. set.keys) w.set-is))
          (something_new mid w.put_mark.new.set.keys n (Stays n c.args.weight) (c.stays.ensures.0 w.if-stays.true) w.in_ok-put_mark.ensures)
      | else-stays w ↦
          subst (λ (keys : List Mark). (m : Mark) → Contains keys m ↔ (Contains mid m ⊎ ((m ≡ n) × Stays n c.args.weight))) (sym (ap (λ set. set.keys) w.set-is))
          (nothing_new mid (λ m. (m ≡ n) × Stays n c.args.weight) (λ m (_, stays). true≢false (sym (c.stays.ensures.1 stays) ∙ w.if-stays.false)))
    ])

pub returns : goal.returns
returns c =
    adds_end (λ (n : Mark) (m : Mark). (m ≡ n) × Stays n c.args.weight) c.args.set.now.keys c.loop-mark.set.keys c.args.marks.now c.loop-mark.mark-index
    c.loop-mark-test.false c.loop-mark.invariant
