-- The kinds that may come next, told one after another.
use Rattle.std.proofs.Common.{◌≡◌, ◌↔◌, inl, inr, ℕ, ◌+◌, ◌<◌, List, [], ◌∷◌, ◌++◌, All, Contains, length, map, slice_index, sym, ap, ◌∙◌, subst, arith}
use Rattle.std.specs.List.Sorted.{IsStrictlyIncreasing}
use Rattle.std.proofs.lemmas.Bool.{cases_lt}
use Rattle.std.proofs.lemmas.List.{length-append, get_or_append_left, get_or-append-add, map-append}
use Rattle.std.proofs.lemmas.List.Elements.{All-nil, All-cons, All-append, All-weaker, All-map, All-contains, Contains-get_or, Contains-append_left, Contains-push, Contains-push_cases}
use Rattle.lw_base.specs.declared.numbers.KindId.{KindId}
use Rattle.lw_grammar.specs.Marks.{Mark}
use Rattle.lw_viable.specs.Aims.{BeginsSome}

-- of the kinds below n those are there that may come next
abbrev pub AreTold : (List Mark → Type 0) → List ℕ → ℕ → List KindId → Type 0
AreTold Whole ks n found = (kind : KindId) → kind.0 < n → Contains found kind ↔ BeginsSome Whole (ks ++ kind.0 ∷ [])

abbrev pub AreBefore : ℕ → List KindId → Type 0
AreBefore n found = All (λ kind. kind.0 < n) found

same_kind : (a b : KindId) → a.0 ≡ b.0 → a ≡ b
same_kind a b same = ap (λ n. record { 0 = n }) same

pub before_more : (n : ℕ) (found : List KindId) → AreBefore n found → AreBefore (n + 1) found
before_more n found all = All-weaker (λ kind. kind.0 < n) (λ kind. kind.0 < n + 1) (λ kind below. omega arith) found all

pub before_push : (n : ℕ) (found : List KindId) (kind : KindId) → kind.0 ≡ n → AreBefore n found → AreBefore (n + 1) (found ++ kind ∷ [])
before_push n found kind same all =
    All-append (λ kind. kind.0 < n + 1) found (kind ∷ []) (before_more n found all)
    (All-cons (λ kind. kind.0 < n + 1) kind [] (omega arith) (All-nil (λ kind. kind.0 < n + 1)))

increasing_push : (xs : List ℕ) (n : ℕ) → IsStrictlyIncreasing xs → All (λ x. x < n) xs → IsStrictlyIncreasing (xs ++ n ∷ [])
increasing_push xs n up all = λ k within.
    let long = length-append xs (n ∷ []) in
    let inside : k < length xs = omega (arith, long) in
    let left = get_or_append_left xs (n ∷ []) 0 k inside in
    elim (cases_lt (k + 1) (length xs)) [
      | inl before ↦ let right = get_or_append_left xs (n ∷ []) 0 (k + 1) before in let less = up k before in omega arith
      | inr past ↦
          let last : k + 1 ≡ length xs + 0 = omega arith in
          let right = ap (λ i. slice_index (xs ++ n ∷ []) i) last ∙ get_or-append-add xs (n ∷ []) 0 0 in
          let less = All-contains (λ x. x < n) xs (slice_index xs k) all (Contains-get_or xs k 0 inside) in
          omega arith
    ]

pub ascending_push : (n : ℕ) (found : List KindId) (kind : KindId) → kind.0 ≡ n → AreBefore n found → IsStrictlyIncreasing (map (λ kind. kind.0) found) →
    IsStrictlyIncreasing (map (λ kind. kind.0) (found ++ kind ∷ []))
ascending_push n found kind same all up =
    subst IsStrictlyIncreasing (sym (map-append (λ (kind : KindId). kind.0) found (kind ∷ []) ∙ ap (λ n. map (λ kind. kind.0) found ++ n ∷ []) same))
    (increasing_push (map (λ kind. kind.0) found) n up (All-map (λ x. x < n) (λ (kind : KindId). kind.0) found all))

module _ (Whole : List Mark → Type 0) (ks : List ℕ) (n : ℕ) (found : List KindId) (all : AreBefore n found) (told : AreTold Whole ks n found) where
  -- a kind below n, or n itself
  by : {P : KindId → Type 0} → (kind : KindId) → kind.0 < n + 1 → ((kind : KindId) → kind.0 < n → P kind) → ((kind : KindId) → kind.0 ≡ n → P kind) → P kind
  by kind below earlier here = elim (cases_lt kind.0 n) [ inl before ↦ earlier kind before | inr past ↦ here kind (omega arith) ]

  pub told_push : (kind : KindId) → kind.0 ≡ n → BeginsSome Whole (ks ++ kind.0 ∷ []) → AreTold Whole ks (n + 1) (found ++ kind ∷ [])
  told_push kind is begins other below =
      by {P = λ other. Contains (found ++ kind ∷ []) other ↔ BeginsSome Whole (ks ++ other.0 ∷ [])} other below
      (λ other before. (
        λ has. (told other before).0 (elim (Contains-push_cases found kind other has) [ inl there ↦ there | inr same ↦ absurd (let number = ap (λ (k : KindId). k.0) same in omega arith) ]),
        λ comes. Contains-append_left found (kind ∷ []) other ((told other before).1 comes),
      ))
      (λ other here.
      let same : kind ≡ other = same_kind kind other (is ∙ sym here) in (
        λ has. subst (λ k. BeginsSome Whole (ks ++ k.0 ∷ [])) same begins,
        λ comes. subst (Contains (found ++ kind ∷ [])) same (Contains-push found kind),
      ))

  pub told_pass : (kind : KindId) → kind.0 ≡ n → ¬ BeginsSome Whole (ks ++ kind.0 ∷ []) → AreTold Whole ks (n + 1) found
  told_pass kind is none other below =
      by {P = λ other. Contains found other ↔ BeginsSome Whole (ks ++ other.0 ∷ [])} other below told
      (λ other here.
      let same : other ≡ kind = same_kind other kind (here ∙ sym is) in (
        λ has. absurd (let before = All-contains (λ kind. kind.0 < n) found other all has in omega arith),
        λ comes. absurd (none (subst (λ k. BeginsSome Whole (ks ++ k.0 ∷ [])) same comes)),
      ))
