-- What is put into a set, one after the other.
use Rattle.std.proofs.Common.{◌≡◌, ◌↔◌, ◌⊎◌, ℕ, zero, suc, ◌+◌, ◌≤◌, ◌<◌, Bool, true, false, List, [], ◌∷◌, ◌++◌, Option, Some, None, length, get_or, take, Contains, refl, sym, ap, ◌∙◌, subst, inl, inr, arith, true≢false, eqb-true, if◌then◌else◌}
use Rattle.std.specs.List.{list_any}
use Rattle.std.proofs.lemmas.Map.Views.{Contains-from_any}
use Rattle.std.proofs.lemmas.Bool.{cases_lt}
use Rattle.std.proofs.lemmas.List.{take_more, take_all, length-append}
use Rattle.std.proofs.lemmas.List.Elements.{Contains-append_left, Contains-push, Contains-push_cases}
use Rattle.indexmap.specs.IndexSet.{insert_key, insert_all}
use Rattle.lw_flow.specs.declared.effect.Effect.{Effect}
use Rattle.lw_flow.specs.declared.effect.Effect.TheVariants.{Nothing, Reads, Fills, Calls, Acts}
use Rattle.lw_flow.specs.declared.effect.Mark.{Mark}
use Rattle.lw_flow.specs.declared.effect.Mark.TheVariants.{Done, Own, Of}
use Rattle.lw_flow.specs.contracts.effect.EffectPartialEq.TheImpl.{eq-value}
use Rattle.lw_flow.specs.contracts.effect.MarkPartialEq.TheImpl.{eq-value as mark-eq}
use Rattle.lw_flow.specs.Effects.{weight}
use Rattle.lw_flow.specs.Marks.{Moves}
use Rattle.lw_flow.specs.Marks as move
use Rattle.lw_flow.proofs.EffectLemmas.{joined-heavy, joined-light}
use Rattle.lw_flow.specs.Sets.{AddsFrom, lesser, lesser_done, IsLightest, IsLightestDone, Stays, IsJoined, IsMoved}

-- ---- one more

module _ {X : Type 0} {eq : X → X → Bool} (exact : (x y : X) → eq x y ≡ true → x ≡ y) where
  pub in_insert_key : (ks : List X) (k y : X) → Contains (insert_key eq ks k) y ↔ (Contains ks y ⊎ (y ≡ k))
  in_insert_key ks k y = by (list_any (eq k) ks) refl
    where
      by : (b : Bool) → list_any (eq k) ks ≡ b → Contains (if b then ks else ks ++ k ∷ []) y ↔ (Contains ks y ⊎ (y ≡ k))
      by true has = (λ within. inl within, λ either. elim either [ inl within ↦ within | inr is ↦ subst (Contains ks) (sym is) (Contains-from_any exact k ks has) ])
      by false _ = (
        λ within. elim (Contains-push_cases ks k y within) [ inl before ↦ inl before | inr is ↦ inr (sym is) ],
        λ either. elim either [
          | inl within ↦ Contains-append_left ks (k ∷ []) y within
          | inr is ↦ subst (Contains (ks ++ k ∷ [])) (sym is) (Contains-push ks k)
        ],
      )

  pub in_all : (ks xs : List X) (y : X) → Contains (insert_all eq ks xs) y ↔ (Contains ks y ⊎ Contains xs y)
  in_all ks [] y = (λ within. inl within, λ either. elim either [ inl within ↦ within | inr (k, inside, is) ↦ absurd (omega (arith, inside)) ])
  in_all ks (x ∷ xs) y = by (in_all (insert_key eq ks x) xs y) (in_insert_key ks x y)
    where
      by : Contains (insert_all eq (insert_key eq ks x) xs) y ↔ (Contains (insert_key eq ks x) y ⊎ Contains xs y) →
          Contains (insert_key eq ks x) y ↔ (Contains ks y ⊎ (y ≡ x)) → Contains (insert_all eq (insert_key eq ks x) xs) y ↔ (Contains ks y ⊎ Contains (x ∷ xs) y)
      by all one = (
        λ within. elim (all.0 within) [
          | inl sooner ↦ elim (one.0 sooner) [ inl old ↦ inl old | inr is ↦ inr (0, omega arith, sym is) ]
          | inr (k, inside, is) ↦ inr (suc k, omega (arith, inside), is)
        ],
        λ either. elim either [
          | inl old ↦ all.1 (inl (one.1 (inl old)))
          | inr (zero, inside, is) ↦ all.1 (inl (one.1 (inr (sym is))))
          | inr (suc k, inside, is) ↦ all.1 (inr (k, omega (arith, inside), is))
        ],
      )

-- a list of keys stays as it is, or gets longer
module _ {X : Type 0} (eq : X → X → Bool) where
  one_longer : (ks : List X) (k : X) → (length ks ≤ length (insert_key eq ks k)) × (length (insert_key eq ks k) ≤ length ks → insert_key eq ks k ≡ ks)
  one_longer ks k = by (list_any (eq k) ks)
    where
      by : (b : Bool) → (length ks ≤ length (if b then ks else ks ++ k ∷ [])) × (length (if b then ks else ks ++ k ∷ []) ≤ length ks → (if b then ks else ks ++ k ∷ []) ≡ ks)
      by true = (omega arith, λ _. refl)
      by false = let more = length-append ks (k ∷ []) in (omega (arith, more), λ le. absurd (omega (arith, more, le)))

  pub all_longer : (ks xs : List X) → (length ks ≤ length (insert_all eq ks xs)) × (length (insert_all eq ks xs) ≤ length ks → insert_all eq ks xs ≡ ks)
  all_longer ks [] = (omega arith, λ _. refl)
  all_longer ks (x ∷ xs) =
      let one = one_longer ks x in
      let rest = all_longer (insert_key eq ks x) xs in
      (omega (arith, one.0, rest.0), λ le. rest.1 (omega (arith, le, one.0)) ∙ one.1 (omega (arith, rest.0, le)))

module _ {A X : Type 0} (P : A → X → Type 0) (old : List X) where
  pub adds_step : (mid new : List X) (xs : List A) (i : ℕ) (d : A) → i < length xs → AddsFrom P old (take i xs) mid →
      ((y : X) → Contains new y ↔ (Contains mid y ⊎ P (get_or xs i d) y)) → AddsFrom P old (take (i + 1) xs) new
  adds_step mid new xs i d inside before one = subst (λ ys. AddsFrom P old ys new) (sym (take_more xs i d inside)) (λ y. (
    λ within. elim ((one y).0 within) [
      | inl sooner ↦ elim ((before y).0 sooner) [
        | inl was ↦ inl was
        | inr (a, has, does) ↦ inr (a, Contains-append_left (take i xs) (get_or xs i d ∷ []) a has, does)
      ]
      | inr does ↦ inr (get_or xs i d, Contains-push (take i xs) (get_or xs i d), does)
    ],
    λ either. elim either [
      | inl was ↦ (one y).1 (inl ((before y).1 (inl was)))
      | inr (a, has, does) ↦ elim (Contains-push_cases (take i xs) (get_or xs i d) a has) [
        | inl sooner ↦ (one y).1 (inl ((before y).1 (inr (a, sooner, does))))
        | inr is ↦ (one y).1 (inr (subst (λ b. P b y) (sym is) does))
      ]
    ],
  ))

  pub adds_end : (new : List X) (xs : List A) (i : ℕ) → length xs ≤ i → AddsFrom P old (take i xs) new → AddsFrom P old xs new
  adds_end new xs i le all = subst (λ ys. AddsFrom P old ys new) (take_all i xs le) all

-- where nothing is put in
pub nothing_new : {X : Type 0} (old : List X) (Q : X → Type 0) → ((y : X) → ¬ Q y) → (y : X) → Contains old y ↔ (Contains old y ⊎ Q y)
nothing_new old Q none y = (λ within. inl within, λ either. elim either [ inl within ↦ within | inr does ↦ absurd (none y does) ])

-- where one is put in that belongs there
pub something_new : {X : Type 0} (old new : List X) (x : X) (Q : Type 0) → Q → ((y : X) → Contains new y ↔ (Contains old y ⊎ (y ≡ x))) → (y : X) →
    Contains new y ↔ (Contains old y ⊎ ((y ≡ x) × Q))
something_new old new x Q does one y = (
  λ within. elim ((one y).0 within) [ inl was ↦ inl was | inr is ↦ inr (is, does) ],
  λ either. elim either [ inl was ↦ (one y).1 (inl was) | inr (is, _) ↦ (one y).1 (inr is) ],
)

-- ---- equal by their test

pub effect_exact : (x y : Effect) → (eq-value).it x y ≡ true → x ≡ y
effect_exact Nothing Nothing h = refl
effect_exact Reads Reads h = refl
effect_exact Fills Fills h = refl
effect_exact (Calls None) (Calls None) h = refl
effect_exact (Calls (Some s)) (Calls (Some t)) h = ap (λ n. Calls (Some n)) (eqb-true s t h)
effect_exact (Acts None) (Acts None) h = refl
effect_exact (Acts (Some s)) (Acts (Some t)) h = ap (λ n. Acts (Some n)) (eqb-true s t h)
effect_exact _ _ h = absurd (true≢false (sym h))

pub mark_exact : (m n : Mark) → (mark-eq).it m n ≡ true → m ≡ n
mark_exact (Done x) (Done y) h = ap Done (effect_exact x y h)
mark_exact (Own m) (Own n) h = ap Own (eqb-true m n h)
mark_exact (Of m) (Of n) h = ap Of (eqb-true m n h)
mark_exact _ _ h = absurd (true≢false (sym h))

pub copied_marks : (keys marks : List Mark) → keys ≡ insert_all (mark-eq).it [] marks → (m : Mark) → Contains keys m ↔ Contains marks m
copied_marks keys marks put m = (
  λ has. elim ((in_all mark_exact [] marks m).0 (subst (λ ms. Contains ms m) put has)) [ inl (k, inside, is) ↦ absurd (omega (arith, inside)) | inr within ↦ within ],
  λ within. subst (λ ms. Contains ms m) (sym put) ((in_all mark_exact [] marks m).1 (inr within)),
)

-- ---- the lightest

pub nothing_in : {X : Type 0} (x : X) → ¬ Contains [] x
nothing_in x (k, inside, is) = omega (arith, inside)

lightest_more : (xs : List Effect) (x : Effect) (o : Option ℕ) → IsLightest xs o → IsLightest (xs ++ x ∷ []) (lesser o (weight x))
lightest_more xs x None none =
    subst (λ xs. IsLightest (xs ++ x ∷ []) (Some (weight x))) (sym none)
    (λ y has. elim (Contains-push_cases [] x y has) [ inl before ↦ absurd (nothing_in y before) | inr is ↦ omega (arith, ap weight is) ], (x, Contains-push [] x, refl))
lightest_more xs x (Some w) (low, (a, has, is)) = (
  λ y within. elim (Contains-push_cases xs x y within) [ inl before ↦ omega (arith, low y before) | inr same ↦ omega (arith, ap weight same) ],
  elim (cases_lt (weight x) w) [
    | inl lt ↦ (x, Contains-push xs x, omega (arith, lt))
    | inr le ↦ (a, Contains-append_left xs (x ∷ []) a has, omega (arith, is, le))
  ],
)

pub lightest_step : (xs : List Effect) (i : ℕ) (d : Effect) (o p : Option ℕ) → i < length xs → IsLightest (take i xs) o → p ≡ lesser o (weight (get_or xs i d)) →
    IsLightest (take (i + 1) xs) p
lightest_step xs i d o p inside before is =
    subst (λ ys. IsLightest ys p) (sym (take_more xs i d inside)) (subst (IsLightest (take i xs ++ get_or xs i d ∷ [])) (sym is) (lightest_more (take i xs) (get_or xs i d) o before))

done_more : (marks : List Mark) (m : Mark) (o : Option ℕ) → IsLightestDone marks o → IsLightestDone (marks ++ m ∷ []) (lesser_done o m)
done_more marks (Done x) None none = (
  λ y has. elim (Contains-push_cases marks (Done x) (Done y) has) [ inl before ↦ absurd (none y before) | inr is ↦ let same : x ≡ y = cc in omega (arith, ap weight same) ],
  (x, Contains-push marks (Done x), refl),
)
done_more marks (Done x) (Some w) (low, (a, has, is)) = (
  λ y within.
      elim (Contains-push_cases marks (Done x) (Done y) within) [
        | inl before ↦ omega (arith, low y before)
        | inr also ↦ let same : x ≡ y = cc in omega (arith, ap weight same)
      ],
  elim (cases_lt (weight x) w) [
    | inl lt ↦ (x, Contains-push marks (Done x), omega (arith, lt))
    | inr le ↦ (a, Contains-append_left marks (Done x ∷ []) (Done a) has, omega (arith, is, le))
  ],
)
done_more marks (Own n) None none = λ y has. elim (Contains-push_cases marks (Own n) (Done y) has) [ inl before ↦ none y before | inr is ↦ cc ]
done_more marks (Own n) (Some w) (low, (a, has, is)) = (
  λ y within. elim (Contains-push_cases marks (Own n) (Done y) within) [ inl before ↦ low y before | inr also ↦ absurd cc ],
  (a, Contains-append_left marks (Own n ∷ []) (Done a) has, is),
)
done_more marks (Of n) None none = λ y has. elim (Contains-push_cases marks (Of n) (Done y) has) [ inl before ↦ none y before | inr is ↦ cc ]
done_more marks (Of n) (Some w) (low, (a, has, is)) = (
  λ y within. elim (Contains-push_cases marks (Of n) (Done y) within) [ inl before ↦ low y before | inr also ↦ absurd cc ],
  (a, Contains-append_left marks (Of n ∷ []) (Done a) has, is),
)

pub done_step : (marks : List Mark) (i : ℕ) (d : Mark) (o p : Option ℕ) → i < length marks → IsLightestDone (take i marks) o → p ≡ lesser_done o (get_or marks i d) →
    IsLightestDone (take (i + 1) marks) p
done_step marks i d o p inside before is =
    subst (λ ms. IsLightestDone ms p) (sym (take_more marks i d inside))
    (subst (IsLightestDone (take i marks ++ get_or marks i d ∷ [])) (sym is) (done_more (take i marks) (get_or marks i d) o before))

pub done_end : (marks : List Mark) (i : ℕ) (o : Option ℕ) → length marks ≤ i → IsLightestDone (take i marks) o → IsLightestDone marks o
done_end marks i o le all = subst (λ ms. IsLightestDone ms o) (take_all i marks le) all

-- ---- joined_effect, and moved

module _ (xs ys old : List Effect) (empty : old ≡ []) where
  none_old : (z : Effect) → ¬ Contains old z
  none_old z has = nothing_in z (subst (λ zs. Contains zs z) empty has)

  pub joined_sets : (mid new : List Effect) (low least : ℕ) → IsLightest ys (Some low) → IsLightest xs (Some least) →
      AddsFrom (λ (x : Effect) y. (y ≡ x) × (low + 1 ≤ weight x)) old xs mid → AddsFrom (λ (x : Effect) y. (y ≡ x) × (least ≤ weight x)) mid ys new → (z : Effect) →
      Contains new z ↔ IsJoined xs ys z
  joined_sets mid new low least (low_y, (y, hy, wy)) (low_x, (x, hx, wx)) one two z = (
    λ within. elim ((two z).0 within) [
      | inl sooner ↦ elim ((one z).0 sooner) [
        | inl before ↦ absurd (none_old z before)
        | inr (a, ha, (is, le)) ↦ (a, y, ha, hy, is ∙ sym (joined-light a y (omega (arith, wy, le))))
      ]
      | inr (b, hb, (is, le)) ↦ (x, b, hx, hb, is ∙ sym (joined-heavy x b (omega (arith, wx, le))))
    ],
    λ (a, b, ha, hb, is). elim (cases_lt (weight b) (weight a)) [
      | inl lt ↦ (two z).1 (inl ((one z).1 (inr (a, ha, (is ∙ joined-light a b lt, omega (arith, lt, low_y b hb))))))
      | inr le ↦ (two z).1 (inr (b, hb, (is ∙ joined-heavy a b le, omega (arith, le, low_x a ha))))
    ],
  )

module _ (marks : List Mark) (effects : List Effect) (old : List Mark) (empty : old ≡ []) where
  no_old_mark : (m : Mark) → ¬ Contains old m
  no_old_mark m has = nothing_in m (subst (λ ms. Contains ms m) empty has)

  module _ (mid : List Mark) (low : ℕ) (lightest : IsLightest effects (Some low)) (one : AddsFrom (λ (n : Mark) m. (m ≡ n) × Stays n low) old marks mid) where
    stays_moved : (n : Mark) (y : Effect) → weight y ≡ low → Stays n low → Moves n y n
    stays_moved (Done x) y is lt = subst (λ z. Moves (Done x) y (Done z)) (joined-light x y (omega (arith, is, lt))) move.done
    stays_moved (Own n) y is lt = move.own (omega (arith, is, lt))
    stays_moved (Of n) y is lt = move.of

    in_mid : (m : Mark) → Contains mid m → IsMoved marks effects m
    in_mid m within = elim ((one m).0 within) [
      | inl before ↦ absurd (no_old_mark m before)
      | inr (n, hn, (is, stays)) ↦ from lightest.1 n hn is stays
    ]
      where
        from : ((y : Effect) × Contains effects y × (weight y ≡ low)) → (n : Mark) → Contains marks n → m ≡ n → Stays n low → IsMoved marks effects m
        from (y, hy, wy) n hn is stays = (n, y, hn, hy, subst (Moves n y) (sym is) (stays_moved n y wy stays))

    -- a moved mark stays what it is, or is what the last effect does
    stays_or_last : {n : Mark} {y : Effect} {m : Mark} → Contains marks n → Contains effects y → Moves n y m →
        Contains mid m ⊎ ((x : Effect) × Contains marks (Done x) × (m ≡ Done y) × (weight x ≤ weight y))
    stays_or_last hn hy (move.done {x} {y}) = elim (cases_lt (weight y) (weight x)) [
      | inl lt ↦ inl ((one _).1 (inr (Done x, hn, (ap Done (joined-light x y lt), omega (arith, lt, lightest.0 y hy)))))
      | inr le ↦ inr (x, hn, ap Done (joined-heavy x y le), le)
    ]
    stays_or_last hn hy (move.own {n} {y} lt) = inl ((one (Own n)).1 (inr (Own n, hn, (refl, omega (arith, lt, lightest.0 y hy)))))
    stays_or_last hn hy (move.of {n} {y}) = inl ((one (Of n)).1 (inr (Of n, hn, (refl, tt))))

    pub moved_alone : IsLightestDone marks None → (m : Mark) → Contains mid m ↔ IsMoved marks effects m
    moved_alone none m = (in_mid m, λ (n, y, hn, hy, moves). elim (stays_or_last hn hy moves) [ inl within ↦ within | inr (x, hx, is, le) ↦ absurd (none x hx) ])

    pub moved_sets : (new : List Mark) (least : ℕ) → IsLightestDone marks (Some least) →
        AddsFrom (λ (y : Effect) m. (m ≡ Done y) × (least ≤ weight y)) mid effects new → (m : Mark) → Contains new m ↔ IsMoved marks effects m
    moved_sets new least (low_x, (x, hx, wx)) two m = (
      λ within. elim ((two m).0 within) [
        | inl sooner ↦ in_mid m sooner
        | inr (y, hy, (is, le)) ↦
            (Done x, y, hx, hy, subst (Moves (Done x) y) (ap Done (joined-heavy x y (omega (arith, wx, le))) ∙ sym is) move.done)
      ],
      λ (n, y, hn, hy, moves). elim (stays_or_last hn hy moves) [
        | inl within ↦ (two m).1 (inl within)
        | inr (z, hz, is, le) ↦ (two m).1 (inr (y, hy, (is, omega (arith, le, low_x z hz))))
      ],
    )
