-- Which numbers are free once one is made, taken or given back.
use Rattle.std.proofs.Common.{◌≡◌, ◌≢◌, ℕ, ◌+◌, ◌-◌, ◌<◌, ◌≤◌, List, [], ◌∷◌, ◌++◌, length, take, get_or, None, sym, ap, subst, ◌∙◌, ◌⊎◌, inl, inr, arith, length-append}
use Rattle.std.proofs.lemmas.Bool.{cases_eq}
use Rattle.std.proofs.lemmas.List.{get_or_append_left, get_or_push, get_or-take, length-take}
use Rattle.lw_docs.specs.Table.{Slots, doc_in, AreSpare}

length_push : {X : Type 0} (xs : List X) (y : X) → length (xs ++ y ∷ []) ≡ length xs + 1
length_push xs y = length-append xs (y ∷ [])

-- the documents of all numbers but one are the same
abbrev pub SameBut : ℕ → Slots → Slots → Type 0
SameBut number slots after = (n : ℕ) → n ≢ number → doc_in after n ≡ doc_in slots n

-- a number that has no document becomes free
pub spare_more : (slots after : Slots) (spare : List ℕ) (number : ℕ) → AreSpare slots spare → ((i : ℕ) → i < length spare → get_or spare i 0 ≢ number) →
    SameBut number slots after → doc_in after number ≡ None → number < length after → length slots ≤ length after → AreSpare after (spare ++ number ∷ [])
spare_more slots after spare number spares other same none within longer = record {
  within = λ i less. elim (place i less) [
    | inl e ↦ subst (λ n. n < length after) (sym (last i e)) within
    | inr l ↦ subst (λ n. n < length after) (sym (old i l)) (let h = spares.within i l in omega (arith, h, longer))
  ];
  vacant = λ i less. elim (place i less) [
    | inl e ↦ ap (doc_in after) (last i e) ∙ none
    | inr l ↦ ap (doc_in after) (old i l) ∙ same (get_or spare i 0) (other i l) ∙ spares.vacant i l
  ];
  apart = λ i j li lj e. apart i j (place i li) (place j lj) e;
}
  where
    place : (i : ℕ) → i < length (spare ++ number ∷ []) → (i ≡ length spare) ⊎ (i < length spare)
    place i less = let l = length_push spare number in elim (cases_eq i (length spare)) [ inl e ↦ inl e | inr n ↦ inr (omega (arith, l, less, n)) ]

    last : (i : ℕ) → i ≡ length spare → get_or (spare ++ number ∷ []) i 0 ≡ number
    last i e = get_or_push spare number 0 i (sym e)

    old : (i : ℕ) → i < length spare → get_or (spare ++ number ∷ []) i 0 ≡ get_or spare i 0
    old i l = get_or_append_left spare (number ∷ []) 0 i l

    apart : (i j : ℕ) → (i ≡ length spare) ⊎ (i < length spare) → (j ≡ length spare) ⊎ (j < length spare) →
        get_or (spare ++ number ∷ []) i 0 ≡ get_or (spare ++ number ∷ []) j 0 → i ≡ j
    apart i j (inl a) (inl b) e = a ∙ sym b
    apart i j (inl a) (inr b) e = absurd (other j b (sym (old j b) ∙ sym e ∙ last i a))
    apart i j (inr a) (inl b) e = absurd (other i a (sym (old i a) ∙ e ∙ last j b))
    apart i j (inr a) (inr b) e = spares.apart i j a b (sym (old i a) ∙ e ∙ old j b)

-- the last free number is taken
pub spare_less : (slots after : Slots) (spare rest : List ℕ) (number : ℕ) → AreSpare slots spare → 0 < length spare → get_or spare (length spare - 1) 0 ≡ number →
    rest ≡ take (length spare - 1) spare → SameBut number slots after → length after ≡ length slots → AreSpare after rest
spare_less slots after spare rest number spares some last is same long = subst (AreSpare after) (sym is) (record {
  within = λ i less. let l = before i less in subst (λ n. n < length after) (sym (at i l)) (let h = spares.within i (omega (arith, l)) in omega (arith, h, long));
  vacant = λ i less. let l = before i less in ap (doc_in after) (at i l) ∙ same (get_or spare i 0) (other i l) ∙ spares.vacant i (omega (arith, l));
  apart = λ i j li lj e. let a = before i li in let b = before j lj in spares.apart i j (omega (arith, a)) (omega (arith, b)) (sym (at i a) ∙ e ∙ at j b);
})
  where
    before : (i : ℕ) → i < length (take (length spare - 1) spare) → i < length spare - 1
    before i less = let l = length-take (length spare - 1) spare in omega (arith, less, l)

    at : (i : ℕ) → i < length spare - 1 → get_or (take (length spare - 1) spare) i 0 ≡ get_or spare i 0
    at i l = get_or-take (length spare - 1) spare i 0 l

    other : (i : ℕ) → i < length spare - 1 → get_or spare i 0 ≢ number
    other i l e = let h : i ≡ length spare - 1 = spares.apart i (length spare - 1) (omega (arith, l)) (omega (arith, some)) (e ∙ sym last) in omega (arith, h, l)
