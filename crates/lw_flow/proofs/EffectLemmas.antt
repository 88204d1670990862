-- Effects are joined_effect, and what the effect of a list of steps says of the steps.
use Rattle.std.proofs.Common.{◌≡◌, ℕ, zero, suc, ◌≤◌, ◌<◌, if◌then◌else◌, List, [], ◌∷◌, ◌++◌, All, Any, refl, sym, ap, ◌∙◌, subst, inl, inr, ◌⊎◌, arith, le-leb, lit≤}
use Rattle.std.proofs.lemmas.Bool.{cases_lt, lt-leb}
use Rattle.std.proofs.lemmas.List.Elements.{All-cons, All-head, All-tail, All-nil}
use Rattle.lw_grammar.specs.declared.grammar.Grammar.{Grammar}
use Rattle.lw_grammar.specs.Leaves.{Leaf}
use Rattle.lw_faults.specs.Steps.{Step, IsAct, IsNodeCall, NoneActs}
use Rattle.lw_faults.specs.Steps as steps
use Rattle.lw_faults.specs.Misplaced.{FillsNode}
use Rattle.lw_faults.specs.Misplaced as fills
use Rattle.lw_flow.specs.declared.effect.Effect.{Effect}
use Rattle.lw_flow.specs.declared.effect.Effect.TheVariants.{Nothing, Reads, Fills, Calls, Acts}
use Rattle.lw_flow.specs.Effects.{weight, joined_effect, StepDoes, HasEffect}
use Rattle.lw_flow.specs.Effects as effect

-- ---- joined_effect

pub joined-heavy : (x y : Effect) → weight x ≤ weight y → joined_effect x y ≡ y
joined-heavy x y le = ap (λ t. if t then y else x) (le-leb (weight x) (weight y) le)

pub joined-light : (x y : Effect) → weight y < weight x → joined_effect x y ≡ x
joined-light x y lt = ap (λ t. if t then y else x) (lt-leb (weight x) (weight y) lt)

pub joined-Nothing : (x : Effect) → joined_effect x Nothing ≡ x
joined-Nothing Nothing = refl
joined-Nothing Reads = refl
joined-Nothing Fills = refl
joined-Nothing (Calls t) = refl
joined-Nothing (Acts t) = refl

pub Nothing-joined : (x : Effect) → joined_effect Nothing x ≡ x
Nothing-joined x = joined-heavy Nothing x (omega arith)

pub joined_assoc : (x y z : Effect) → joined_effect (joined_effect x y) z ≡ joined_effect x (joined_effect y z)
joined_assoc x y z = elim (cases_lt (weight y) (weight x)) [
  | inl lt ↦ ap (λ v. joined_effect v z) (joined-light x y lt) ∙ elim (cases_lt (weight z) (weight y)) [
    | inl lower ↦
        let least : weight z < weight x = omega arith in
        joined-light x z least ∙ sym (joined-light x y lt) ∙ ap (joined_effect x) (sym (joined-light y z lower))
    | inr over ↦ ap (joined_effect x) (sym (joined-heavy y z over))
  ]
  | inr le ↦ ap (λ v. joined_effect v z) (joined-heavy x y le) ∙ elim (cases_lt (weight z) (weight y)) [
    | inl lower ↦ joined-light y z lower ∙ sym (joined-heavy x y le) ∙ ap (joined_effect x) (sym (joined-light y z lower))
    | inr over ↦
        let most : weight x ≤ weight z = omega arith in
        joined-heavy y z over ∙ sym (joined-heavy x z most) ∙ ap (joined_effect x) (sym (joined-heavy y z over))
  ]
]

-- the weight of what is joined_effect is the greater one
pub weight-joined : (x y : Effect) → (weight x ≤ weight (joined_effect x y)) × (weight y ≤ weight (joined_effect x y))
weight-joined x y = elim (cases_lt (weight y) (weight x)) [
  | inl lt ↦ let is = ap weight (joined-light x y lt) in (omega (arith, is), omega (arith, is, lt))
  | inr le ↦ let is = ap weight (joined-heavy x y le) in (omega (arith, is, le), omega (arith, is))
]

pub joined-one : (x y : Effect) → (joined_effect x y ≡ x) ⊎ (joined_effect x y ≡ y)
joined-one x y = elim (cases_lt (weight y) (weight x)) [ inl lt ↦ inl (joined-light x y lt) | inr le ↦ inr (joined-heavy x y le) ]

pub joined-below : (x y : Effect) (n : ℕ) → weight x < n → weight y < n → weight (joined_effect x y) < n
joined-below x y n lt less = elim (joined-one x y) [ inl is ↦ omega (arith, ap weight is, lt) | inr is ↦ omega (arith, ap weight is, less) ]

module _ (g : Grammar) where
  -- ---- a step after another

  pub effect_of_both : {xs ys : List Step} {x y : Effect} → HasEffect g xs x → HasEffect g ys y → HasEffect g (xs ++ ys) (joined_effect x y)
  effect_of_both {ys} {y} effect.none two = subst (HasEffect g ys) (sym (Nothing-joined y)) two
  effect_of_both {ys} {y} (effect.more {at} {steps} {x} {y = z} does one) two =
      subst (HasEffect g (at ∷ (steps ++ ys))) (sym (joined_assoc x z y)) (effect.more does (effect_of_both one two))

  pub record Halves (xs ys : List Step) (z : Effect) : Type 0 where
    pub x : Effect
    pub y : Effect
    pub one : HasEffect g xs x
    pub two : HasEffect g ys y
    pub is : z ≡ joined_effect x y

  pub halves : (xs ys : List Step) (z : Effect) → HasEffect g (xs ++ ys) z → Halves xs ys z
  halves [] ys z has = record { x = Nothing; y = z; one = effect.none; two = has; is = sym (Nothing-joined z) }
  halves (at ∷ xs) ys _ (effect.more {x} {y} does has) =
      let rest = halves xs ys y has in
      record { x = joined_effect x rest.x; y = rest.y; one = effect.more does rest.one; two = rest.two; is = ap (joined_effect x) rest.is ∙ sym (joined_assoc x rest.x rest.y) }

  -- ---- nothing

  step_weight : {l : Leaf} {x : Effect} → StepDoes g l x → 1 ≤ weight x
  step_weight (effect.reads _) = lit≤ tt
  step_weight (effect.calls _ _) = lit≤ tt
  step_weight effect.fills = lit≤ tt
  step_weight effect.acts = lit≤ tt

  pub no_steps : {xs : List Step} {x : Effect} → HasEffect g xs x → weight x < 1 → xs ≡ []
  no_steps effect.none lt = refl
  no_steps (effect.more {x} {y} does has) lt = absurd (omega (arith, step_weight does, (weight-joined x y).0, lt))

  pub no_effect : {x : Effect} → HasEffect g [] x → x ≡ Nothing
  no_effect effect.none = refl

  -- ---- what weighs so much is told of by one of the steps

  -- a step that weighs this much is one of these
  pub record Tells (P : Step → Type 0) (n : ℕ) : Type 0 where
    pub yes : (at : Step) (x : Effect) → StepDoes g at.leaf x → n ≤ weight x → P at
    pub no : (at : Step) (x : Effect) → StepDoes g at.leaf x → P at → n ≤ weight x

  module _ (P : Step → Type 0) (n : ℕ) (tells : Tells P n) (positive : 0 < n) where
    some_more : (at : Step) (steps : List Step) → Any P steps → Any P (at ∷ steps)
    some_more at steps (k, x, inside, is, does) = (suc k, x, omega (arith, inside), is, does)

    pub some_one : {xs : List Step} {x : Effect} → HasEffect g xs x → n ≤ weight x → Any P xs
    some_one effect.none le = absurd (omega (arith, le, positive))
    some_one (effect.more {at} {steps} {x} {y} does has) le = elim (joined-one x y) [
      | inl is ↦ (0, at, omega arith, refl, tells.yes at x does (omega (arith, ap weight is, le)))
      | inr is ↦ some_more at steps (some_one has (omega (arith, ap weight is, le)))
    ]

    pub so_much : {xs : List Step} {x : Effect} → HasEffect g xs x → Any P xs → n ≤ weight x
    so_much effect.none (k, at, inside, is, does) = absurd (omega (arith, inside))
    so_much (effect.more {x} {y} does has) (zero, at, inside, is, passes) =
        omega (arith, (weight-joined x y).0, tells.no _ x does (subst P (sym is) passes))
    so_much (effect.more {x} {y} does has) (suc k, at, inside, is, passes) =
        omega (arith, (weight-joined x y).1, so_much has (k, at, omega (arith, inside), is, passes))

    -- and so less weight says that there is none
    pub not_one : {xs : List Step} {x : Effect} → HasEffect g xs x → weight x < n → All (λ at. ¬ P at) xs
    not_one effect.none lt = All-nil (λ (at : Step). ¬ P at)
    not_one (effect.more {at} {steps} {x} {y} does has) lt =
        All-cons (λ at. ¬ P at) at steps (λ passes. omega (arith, (weight-joined x y).0, lt, tells.no at x does passes))
        (not_one has (omega (arith, (weight-joined x y).1, lt)))

    pub so_little : {xs : List Step} {x : Effect} → HasEffect g xs x → All (λ at. ¬ P at) xs → weight x < n
    so_little effect.none none = positive
    so_little (effect.more {at} {steps} {x} {y} does has) none =
        joined-below x y n
        (elim (cases_lt (weight x) n) [ inl lt ↦ lt | inr le ↦ absurd (All-head (λ at. ¬ P at) at steps none (tells.yes at x does le)) ])
        (so_little has (All-tail (λ at. ¬ P at) at steps none))

  pub tells_fills : Tells (λ at. FillsNode g at.leaf) 2
  tells_fills = record { yes = λ at x. yes; no = λ at x. no }
    where
      yes : {l : Leaf} {x : Effect} → StepDoes g l x → 2 ≤ weight x → FillsNode g l
      yes (effect.reads _) le = absurd (omega (arith, le))
      yes (effect.calls _ calls) le = fills.calls calls
      yes effect.fills le = fills.assigns
      yes effect.acts le = fills.acts

      no : {l : Leaf} {x : Effect} → StepDoes g l x → FillsNode g l → 2 ≤ weight x
      no (effect.reads none) (fills.calls {called} calls) = absurd (none (called, calls))
      no (effect.calls _ _) _ = lit≤ tt
      no effect.fills _ = lit≤ tt
      no effect.acts _ = lit≤ tt

  pub tells_acts : Tells (λ at. IsAct at.leaf) 4
  tells_acts = record { yes = λ at x. yes; no = λ at x. no }
    where
      yes : {l : Leaf} {x : Effect} → StepDoes g l x → 4 ≤ weight x → IsAct l
      yes (effect.reads _) le = absurd (omega (arith, le))
      yes (effect.calls _ calls) le = absurd (omega (arith, le))
      yes effect.fills le = absurd (omega (arith, le))
      yes effect.acts le = steps.act

      no : {l : Leaf} {x : Effect} → StepDoes g l x → IsAct l → 4 ≤ weight x
      no (effect.reads _) is = elim is [ ]
      no (effect.calls _ _) is = elim is [ ]
      no effect.fills is = elim is [ ]
      no effect.acts _ = lit≤ tt

  -- an action or a call of a rule that makes nodes
  pub data Names : Leaf → Type 0 where
    by_act : {l : Leaf} → IsAct l → Names l
    by_call : {l : Leaf} → IsNodeCall g l → Names l

  pub tells_names : Tells (λ at. Names at.leaf) 3
  tells_names = record { yes = λ at x. yes; no = λ at x. no }
    where
      yes : {l : Leaf} {x : Effect} → StepDoes g l x → 3 ≤ weight x → Names l
      yes (effect.reads _) le = absurd (omega (arith, le))
      yes (effect.calls called calls) le = by_call (called, calls)
      yes effect.fills le = absurd (omega (arith, le))
      yes effect.acts le = by_act steps.act

      no : {l : Leaf} {x : Effect} → StepDoes g l x → Names l → 3 ≤ weight x
      no (effect.reads none) (by_call is) = absurd (none is)
      no (effect.reads none) (by_act is) = elim is [ ]
      no (effect.calls _ _) _ = lit≤ tt
      no effect.fills (by_act is) = elim is [ ]
      no effect.fills (by_call (called, is)) = elim is [ ]
      no effect.acts _ = lit≤ tt
