-- The type that is current behind steps is told by their effect.
use Rattle.std.proofs.Common.{◌≡◌, ◌≢◌, lit≤, ℕ, ◌≤◌, ◌<◌, List, [], ◌∷◌, ◌++◌, Option, Some, slice_get, All, false, refl, sym, ap, ◌∙◌, subst, inl, inr, arith, lit<}
use Rattle.std.proofs.lemmas.Option.{same_Some}
use Rattle.std.proofs.lemmas.Bool.{cases_lt}
use Rattle.std.proofs.lemmas.List.Elements.{All-contains, All-tail, Contains-get_or, Contains-append_left, Contains-append_right}
use Rattle.lw_grammar.specs.declared.grammar.Grammar.{Grammar}
use Rattle.lw_grammar.specs.declared.rule.Rule.{Rule}
use Rattle.lw_grammar.specs.declared.rule.Action.{Action}
use Rattle.lw_grammar.specs.Leaves as leaf
use Rattle.lw_grammar.specs.Leaves.{Leaf, leaves}
use Rattle.lw_grammar.specs.Subtypes.{HasType}
use Rattle.lw_grammar.proofs.FirstLemmas.{first_item}
use Rattle.lw_faults.specs.Steps.{Step, step, IsAct, IsNodeCall, NoneActs, CallsNode, IsCurrentType}
use Rattle.lw_faults.specs.Steps as steps
use Rattle.lw_numbers.specs.Numbering.{type_names}
use Rattle.lw_flow.specs.declared.effect.Effect.{Effect}
use Rattle.lw_flow.specs.declared.effect.Effect.TheVariants.{Nothing, Reads, Fills, Calls, Acts}
use Rattle.lw_flow.specs.Effects.{weight, joined_effect, type_number, own_number, StepDoes, HasEffect}
use Rattle.lw_flow.specs.Effects as effect
use Rattle.lw_flow.proofs.EffectLemmas.{joined-heavy, joined-light, Halves, halves, Names, by_act, by_call, tells_acts, tells_names, so_little, not_one}
use Rattle.lw_flow.proofs.NumberLemmas.{own_type, same_place, type_of_number}

-- the number of the current type, where this is the number of the rule's own
abbrev pub current_number : Option ℕ → Effect → Option ℕ
current_number own Nothing = own
current_number own Reads = own
current_number own Fills = own
current_number own (Calls t) = t
current_number own (Acts t) = t

light_current : (own : Option ℕ) (x : Effect) → weight x < 3 → current_number own x ≡ own
light_current own Nothing lt = refl
light_current own Reads lt = refl
light_current own Fills lt = refl
light_current own (Calls t) lt = absurd (omega (arith, lt))
light_current own (Acts t) lt = absurd (omega (arith, lt))

module _ (g : Grammar) where
  -- ---- from the current type to the effect

  act_does : {a : Action} {x : Effect} → StepDoes g (leaf.Act a) x → x ≡ Acts (type_number g a.type_name)
  act_does effect.acts = refl

  one_called : {l : Leaf} {called other : Rule} → CallsNode g l called → CallsNode g l other → called ≡ other
  one_called (steps.node r called is _ _) (steps.node q other was _ _) = first_item is.first was.first

  pub call_does : {l : Leaf} {called : Rule} {x : Effect} → CallsNode g l called → StepDoes g l x → x ≡ Calls (own_number g called)
  call_does {called} calls (effect.reads none) = absurd (none (called, calls))
  call_does calls (effect.calls other also) = ap (λ r. Calls (own_number g r)) (one_called also calls)
  call_does calls effect.fills = elim calls [ ]
  call_does calls effect.acts = elim calls [ ]

  -- where the last step among those of most weight stands in the middle, the effect is its own
  middle : (p q r : Effect) → weight r < weight q → weight p ≤ weight q → joined_effect p (joined_effect q r) ≡ q
  middle p q r less most = ap (joined_effect p) (joined-light q r less) ∙ joined-heavy p q most

  heaviest : (x : Effect) → weight x ≤ 4
  heaviest Nothing = lit≤ tt
  heaviest Reads = lit≤ tt
  heaviest Fills = lit≤ tt
  heaviest (Calls t) = lit≤ tt
  heaviest (Acts t) = lit≤ tt

  record OneFirst (at : Step) (after : List Step) (z : Effect) : Type 0 where
    x : Effect
    y : Effect
    one : StepDoes g at.leaf x
    more : HasEffect g after y
    is : z ≡ joined_effect x y

  one_first : {at : Step} {after : List Step} {z : Effect} → HasEffect g (at ∷ after) z → OneFirst at after z
  one_first (effect.more {x} {y} does has) = record { x = x; y = y; one = does; more = has; is = refl }

  All-left : (P : Step → Type 0) (xs ys : List Step) → All P (xs ++ ys) → All P xs
  All-left P xs ys all = λ k d inside. All-contains P (xs ++ ys) _ all (Contains-append_left xs ys _ (Contains-get_or xs k d inside))

  All-right : (P : Step → Type 0) (xs ys : List Step) → All P (xs ++ ys) → All P ys
  All-right P xs ys all = λ k d inside. All-contains P (xs ++ ys) _ all (Contains-append_right xs ys _ (Contains-get_or ys k d inside))

  none_behind : {after : List Step} {r : Effect} → HasEffect g after r → NoneActs after → weight r < 4
  none_behind has none = so_little g (λ at. IsAct at.leaf) 4 (tells_acts g) (lit< tt) has none

  no_names : (xs : List Step) → NoneActs xs → All (λ x. ¬ IsNodeCall g x.leaf) xs → All (λ x. ¬ Names g x.leaf) xs
  no_names xs acts calls = λ k d inside. λ is. by (acts k d inside) (calls k d inside) is
    where
      by : {l : Leaf} → ¬ IsAct l → ¬ IsNodeCall g l → Names g l → ⊥
      by no_act no_call (by_act is) = no_act is
      by no_act no_call (by_call is) = no_call is

  light : {xs : List Step} {x : Effect} → HasEffect g xs x → NoneActs xs → All (λ x. ¬ IsNodeCall g x.leaf) xs → weight x < 3
  light {xs} has acts calls = so_little g (λ at. Names g at.leaf) 3 (tells_names g) (lit< tt) has (no_names xs acts calls)

  pub current_told : {rule : Rule} {xs : List Step} {x : Effect} {name : List ℕ} → IsCurrentType g rule xs name → HasEffect g xs x →
      current_number (own_number g rule) x ≡ type_number g name
  current_told {rule} {x} (IsCurrentType.acted before after written a none) has = ap (current_number (own_number g rule)) (is both inside (act_does inside.one))
    where
      both : Halves g before (step written (leaf.Act a) ∷ after) x
      both = halves g before (step written (leaf.Act a) ∷ after) x has

      inside : OneFirst (step written (leaf.Act a)) after both.y
      inside = one_first both.two

      is : (both : Halves g before (step written (leaf.Act a) ∷ after) x) (inside : OneFirst (step written (leaf.Act a)) after both.y) →
          inside.x ≡ Acts (type_number g a.type_name) → x ≡ Acts (type_number g a.type_name)
      is both inside does =
          let less = none_behind inside.more none in
          let most = heaviest both.x in
          both.is ∙ ap (joined_effect both.x) inside.is
          ∙ middle both.x inside.x inside.y (omega (arith, ap weight does, less)) (omega (arith, ap weight does, most)) ∙ does
  current_told {rule} {x} {name} (IsCurrentType.called before after at called acts calls none typed) has =
      ap (current_number (own_number g rule)) (is both inside (call_does calls inside.one)) ∙ own_type g called name typed
    where
      both : Halves g before (at ∷ after) x
      both = halves g before (at ∷ after) x has

      inside : OneFirst at after both.y
      inside = one_first both.two

      none_after : NoneActs after
      none_after = All-tail (λ (x : Step). ¬ IsAct x.leaf) at after (All-right (λ (x : Step). ¬ IsAct x.leaf) before (at ∷ after) acts)

      is : (both : Halves g before (at ∷ after) x) (inside : OneFirst at after both.y) → inside.x ≡ Calls (own_number g called) → x ≡ Calls (own_number g called)
      is both inside does =
          let less = light inside.more none_after none in
          let most = none_behind both.one (All-left (λ (x : Step). ¬ IsAct x.leaf) before (at ∷ after) acts) in
          both.is ∙ ap (joined_effect both.x) inside.is
          ∙ middle both.x inside.x inside.y (omega (arith, ap weight does, less)) (omega (arith, ap weight does, most)) ∙ does
  current_told {rule} {x} {name} (steps.own acts calls typed) has =
      light_current (own_number g rule) x (light has acts calls) ∙ own_type g rule name typed

  -- ---- from the effect to the current type

  act_leaf : {l : Leaf} {x : Effect} (o : Option ℕ) → StepDoes g l x → x ≡ Acts o → (a : Action) × (l ≡ leaf.Act a) × (o ≡ type_number g a.type_name)
  act_leaf o (effect.reads _) is = absurd (omega (arith, ap weight is))
  act_leaf o (effect.calls _ _) is = absurd (omega (arith, ap weight is))
  act_leaf o effect.fills is = absurd (omega (arith, ap weight is))
  act_leaf o (effect.acts {a}) is = (a, refl, cc)

  call_leaf : {l : Leaf} {x : Effect} (o : Option ℕ) → StepDoes g l x → x ≡ Calls o → (called : Rule) × CallsNode g l called × (o ≡ own_number g called)
  call_leaf o (effect.reads _) is = absurd (omega (arith, ap weight is))
  call_leaf o (effect.calls called calls) is = (called, calls, cc)
  call_leaf o effect.fills is = absurd (omega (arith, ap weight is))
  call_leaf o effect.acts is = absurd (omega (arith, ap weight is))

  -- a step of this kind with none behind it that weighs as much
  pub record Last (P : Step → Type 0) (n : ℕ) (xs : List Step) : Type 0 where
    pub before : List Step
    pub after : List Step
    pub at : Step
    pub is : xs ≡ before ++ at ∷ after
    pub does : P at
    pub y : Effect
    pub behind : HasEffect g after y
    pub less : weight y < n

  module _ (P : Step → Type 0) (z : Effect) (which : (at : Step) (x : Effect) → StepDoes g at.leaf x → x ≡ z → P at) (not_none : Nothing ≢ z) where
    pub last : {xs : List Step} {x : Effect} → HasEffect g xs x → x ≡ z → Last P (weight z) xs
    last effect.none is = absurd (not_none is)
    last (effect.more {at} {steps} {x} {y} does has) is = elim (cases_lt (weight y) (weight x)) [
      | inl lt ↦
          let same = sym (joined-light x y lt) ∙ is in
          record { before = []; after = steps; at = at; is = refl; does = which at x does same; y = y; behind = has; less = omega (arith, lt, ap weight same) }
      | inr le ↦
          let rest = last has (sym (joined-heavy x y le) ∙ is) in
          record {
            before = at ∷ rest.before;
            after = rest.after;
            at = rest.at;
            is = ap (λ xs. at ∷ xs) rest.is;
            does = rest.does;
            y = rest.y;
            behind = rest.behind;
            less = rest.less;
          }
    ]

  no_acts : {xs : List Step} {x : Effect} → HasEffect g xs x → weight x < 4 → NoneActs xs
  no_acts has lt = not_one g (λ at. IsAct at.leaf) 4 (tells_acts g) (lit< tt) has lt

  no_calls : {xs : List Step} {x : Effect} → HasEffect g xs x → weight x < 3 → All (λ x. ¬ IsNodeCall g x.leaf) xs
  no_calls has lt = λ k d inside is. not_one g (λ at. Names g at.leaf) 3 (tells_names g) (lit< tt) has lt k d inside (by_call is)

  pub own_is_current : {rule : Rule} {xs : List Step} {x : Effect} {name : List ℕ} → HasEffect g xs x → weight x < 3 → HasType g rule name → IsCurrentType g rule xs name
  own_is_current has lt typed = steps.own (no_acts has (omega (arith, lt))) (no_calls has lt) typed

  pub act_is_current : {rule : Rule} {xs : List Step} {name : List ℕ} (n : ℕ) → HasEffect g xs (Acts (Some n)) → slice_get (type_names g) n ≡ Some name →
      IsCurrentType g rule xs name
  act_is_current {rule} {xs} {name} n has named =
      from (last (λ at. (a : Action) × (at.leaf ≡ leaf.Act a) × (Some n ≡ type_number g a.type_name)) (Acts (Some n)) (λ at x. act_leaf (Some n)) (λ is. omega (arith, ap weight is))
      has refl)
    where
      from : Last (λ at. (a : Action) × (at.leaf ≡ leaf.Act a) × (Some n ≡ type_number g a.type_name)) 4 xs → IsCurrentType g rule xs name
      from found =
          let a = found.does.0 in
          let same : a.type_name ≡ name =
          same_Some a.type_name name (sym (same_place a.type_name (type_names g) n (sym found.does.2)) ∙ named) in
          let is : xs ≡ found.before ++ step found.at.written (leaf.Act a) ∷ found.after =
          found.is ∙ ap (λ l. found.before ++ step found.at.written l ∷ found.after) found.does.1 in
          subst (λ xs. IsCurrentType g rule xs name) (sym is)
          (subst (IsCurrentType g rule (found.before ++ step found.at.written (leaf.Act a) ∷ found.after)) same
          (IsCurrentType.acted found.before found.after found.at.written a (no_acts found.behind found.less)))

  whole_called : {l : Leaf} {called : Rule} → CallsNode g l called → called.is_fragment ≡ false
  whole_called (steps.node _ _ _ whole _) = whole

  pub call_is_current : {rule : Rule} {xs : List Step} {name : List ℕ} (n : ℕ) → HasEffect g xs (Calls (Some n)) → slice_get (type_names g) n ≡ Some name →
      IsCurrentType g rule xs name
  call_is_current {rule} {xs} {name} n has named =
      from (last (λ at. (called : Rule) × CallsNode g at.leaf called × (Some n ≡ own_number g called)) (Calls (Some n)) (λ at x. call_leaf (Some n)) (λ is. omega (arith, ap weight is))
      has refl)
    where
      from : Last (λ at. (called : Rule) × CallsNode g at.leaf called × (Some n ≡ own_number g called)) 3 xs → IsCurrentType g rule xs name
      from found =
          let called = found.does.0 in
          let none : NoneActs (found.before ++ found.at ∷ found.after) = subst NoneActs found.is (no_acts has (lit< tt)) in
          subst (λ xs. IsCurrentType g rule xs name) (sym found.is)
          (IsCurrentType.called found.before found.after found.at called none found.does.1 (no_calls found.behind found.less)
          (type_of_number g called name n (whole_called found.does.1) (sym found.does.2) named))
