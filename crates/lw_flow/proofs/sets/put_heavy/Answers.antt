use Rattle.std.proofs.Common.{◌↔◌, ◌⊎◌, ◌≡◌, ◌≤◌, List, Contains, get_or, sym, ap, subst, arith}
use Rattle.lw_flow.specs.declared.effect.Effect.{Effect}
use Rattle.lw_flow.specs.declared.effect.Effect.TheVariants.{Nothing}
use Rattle.lw_flow.specs.Effects.{weight}
use Rattle.lw_flow.proofs.SetLemmas.{adds_step, adds_end, nothing_new, something_new}
use Rattle.lw_flow.proofs.sets.put_heavy.Goals as goal
use Rattle.lw_flow.proofs.sets.put_heavy.Goals.{then-least-weight+in_ok-put_effect, else-least-weight}

pub loop-effect-preserved : goal.loop-effect-preserved
loop-effect-preserved c =
    let old = c.args.set.now.keys in
    let mid = c.loop-effect.set.keys in
    let xs = c.args.effects.now in
    let i = c.loop-effect.effect-index in
    let x = get_or xs i Nothing in
    let P = λ (a : Effect) (y : Effect). (y ≡ a) × (c.args.least ≤ weight a) in
    adds_step P old mid c.if-least-weight.set.keys xs i Nothing c.loop-effect-test.true c.loop-effect.invariant (elim c.if-least-weight.branch [
      | then-least-weight+in_ok-put_effect w ↦
          subst (λ (keys : List Effect). (y : Effect) → Contains keys y ↔ (Contains mid y ⊎ ((y ≡ x) × (c.args.least ≤ weight x)))) (sym (ap (λ set. set.keys) w.set-is))
          (something_new mid w.put_effect.new.set.keys x (c.args.least ≤ weight x) (omega (arith, w.if-least-weight.true, c.weight.ensures)) w.in_ok-put_effect.ensures)
      | else-least-weight w ↦
          subst (λ (keys : List Effect). (y : Effect) → Contains keys y ↔ (Contains mid y ⊎ ((y ≡ x) × (c.args.least ≤ weight x)))) (sym (ap (λ set. set.keys) w.set-is))
          (nothing_new mid (λ y. (y ≡ x) × (c.args.least ≤ weight x)) (λ y (_, le). omega (arith, le, w.if-least-weight.false, c.weight.ensures)))
    ])

pub returns : goal.returns
returns c =
    adds_end (λ (a : Effect) (y : Effect). (y ≡ a) × (c.args.least ≤ weight a)) c.args.set.now.keys c.loop-effect.set.keys c.args.effects.now c.loop-effect.effect-index
    c.loop-effect-test.false c.loop-effect.invariant
