-- A grammar has one row of kinds.
use Rattle.std.proofs.Common.{◌≡◌, ℕ, zero, suc, ◌+◌, ◌<◌, ◌↔◌, ◌⊎◌, inl, inr, List, [], ◌∷◌, get_or, Contains, refl, sym, ap, ap₂, ◌∙◌, subst, arith}
use Rattle.std.specs.List.{flat_map}
use Rattle.std.specs.List.Sorted.{IsStrictlyIncreasing}
use Rattle.std.proofs.lemmas.List.Kept.{AllPairs-from_increasing}
use Rattle.lw_grammar.specs.declared.grammar.Grammar.{Grammar}
use Rattle.lw_grammar.specs.Kinds.{Kinds}
use Rattle.lw_grammar.specs.Named.{IsFirst}
use Rattle.lw_grammar.specs.Reached.{IsReached}
use Rattle.lw_grammar.proofs.FirstLemmas.{first_item}
use Rattle.lw_grammar.proofs.KeptLemmas.{kept_once}
use Rattle.lw_grammar.proofs.KindLemmas.{one_kinds}
use Rattle.lw_kinds.proofs.PassingReads.{at_front, further}
use Rattle.lw_kinds.specs.Rows.{KindRow, AreKindRowOf}
use Rattle.lw_kinds.specs.Uses.{Use, IsFirstUse, rule_keyword_uses}
use Rattle.lw_kinds.proofs.FirstTexts.{texts_of}

-- ---- numbers that rise, by which numbers they are

abbrev Rises : List ℕ → Type 0
Rises [] = Unit {0}
Rises (x ∷ xs) = ((y : ℕ) → Contains xs y → x < y) × Rises xs

rises : (xs : List ℕ) → IsStrictlyIncreasing xs → Rises xs
rises [] ascending = tt
rises (x ∷ xs) ascending = (above, rises xs after)
  where
    after : IsStrictlyIncreasing xs
    after k inside =
        let next : suc k + 1 ≡ suc (k + 1) = omega arith in
        subst (λ n. get_or xs k 0 < get_or (x ∷ xs) n 0) next (ascending (suc k) (omega (arith, inside)))

    above : (y : ℕ) → Contains xs y → x < y
    above y (k, inside, is) = subst (λ z. x < z) is (AllPairs-from_increasing (x ∷ xs) ascending 0 (suc k) y (omega arith) (omega (arith, inside)))

in_tail : (x : ℕ) (xs : List ℕ) (y : ℕ) → Contains (x ∷ xs) y → (x ≡ y) ⊎ Contains xs y
in_tail x xs y (zero, inside, is) = inl is
in_tail x xs y (suc k, inside, is) = inr (k, omega arith, is)

same_numbers : (xs ys : List ℕ) → Rises xs → Rises ys → ((t : ℕ) → Contains xs t ↔ Contains ys t) → xs ≡ ys
same_numbers [] [] up down same = refl
same_numbers [] (y ∷ ys) up down same = let (k, inside, is) = (same y).1 (at_front y ys) in absurd (omega (arith, inside))
same_numbers (x ∷ xs) [] up down same = let (k, inside, is) = (same x).0 (at_front x xs) in absurd (omega (arith, inside))
same_numbers (x ∷ xs) (y ∷ ys) up down same = ap₂ (λ z zs. z ∷ zs) heads (same_numbers xs ys up.1 down.1 (λ t. (forth t, back t)))
  where
    heads : x ≡ y
    heads = elim (in_tail y ys x ((same x).0 (at_front x xs))) [
      | inl is ↦ sym is
      | inr later ↦ elim (in_tail x xs y ((same y).1 (at_front y ys))) [
        | inl is ↦ is
        | inr after ↦ absurd (omega (arith, up.0 y after, down.0 x later))
      ]
    ]

    forth : (t : ℕ) → Contains xs t → Contains ys t
    forth t has = elim (in_tail y ys t ((same t).0 (further x xs t has))) [
      | inl is ↦ absurd (omega (arith, up.0 t has, is, heads))
      | inr there ↦ there
    ]

    back : (t : ℕ) → Contains ys t → Contains xs t
    back t has = elim (in_tail x xs t ((same t).1 (further y ys t has))) [
      | inl is ↦ absurd (omega (arith, down.0 t has, is, heads))
      | inr there ↦ there
    ]

-- ---- uses that are first, by their texts

module _ (g : Grammar) where
  one_first : (word other : Use) → IsFirstUse g word → IsFirstUse g other → word.0 ≡ other.0 → word ≡ other
  one_first word other is was same =
      first_item is.first
      (subst (λ rules. IsFirst (λ (x : Use). x.0 ≡ word.0) (flat_map rule_keyword_uses rules) was.place other) (kept_once (IsReached g) was.reached is.reached)
      (subst (λ text. IsFirst (λ (x : Use). x.0 ≡ text) (flat_map rule_keyword_uses was.rules) was.place other) (sym same) was.first))

  same_uses : (words others : List Use) → texts_of words ≡ texts_of others → ((word : Use) → Contains words word → IsFirstUse g word) →
      ((word : Use) → Contains others word → IsFirstUse g word) → words ≡ others
  same_uses [] [] same are were = refl
  same_uses [] (other ∷ others) same are were = absurd (cc)
  same_uses (word ∷ words) [] same are were = absurd (cc)
  same_uses (word ∷ words) (other ∷ others) same are were =
      let heads : word.0 ≡ other.0 = cc in
      let tails : texts_of words ≡ texts_of others = cc in
      ap₂ (λ x xs. x ∷ xs) (one_first word other (are word (at_front word words)) (were other (at_front other others)) heads)
      (same_uses words others tails (λ x has. are x (further word words x has)) (λ x has. were x (further other others x has)))

  pub one_row : (one other : KindRow) → AreKindRowOf g one → AreKindRowOf g other → one ≡ other
  one_row one other is was =
      ap₂ (λ words places. record { keywords = words; terminals = places })
      (same_uses one.keywords other.keywords (is.texts ∙ ap (λ (kinds : Kinds). kinds.keywords) (one_kinds g is.kinds was.kinds is.are was.are) ∙ sym was.texts) is.first was.first)
      (same_numbers one.terminals other.terminals (rises one.terminals is.ascending) (rises other.terminals was.ascending)
      (λ t. (λ has. (was.exact t).1 ((is.exact t).0 has), λ has. (is.exact t).1 ((was.exact t).0 has))))
