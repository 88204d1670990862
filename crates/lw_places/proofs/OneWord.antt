-- The longest word that ends at an offset is the only one.
use Rattle.std.proofs.Common.{◌≡◌, ◌⊎◌, inl, inr, ℕ, List, [], ◌∷◌, ◌++◌, suc, true, All, Contains, append_assoc, refl, sym, ap, ◌∙◌, subst, arith}
use Rattle.std.proofs.lemmas.List.Elements.{All-contains, Contains-append_left}
use Rattle.lw_gramlex.specs.FileTokens.{is_word_part}
use Rattle.lw_places.specs.Words.{IsTypedAt}

-- one text is longer than another by bytes with which a word begins
record IsLonger (long short word : List ℕ) : Type 0 where
  first : ℕ
  others : List ℕ
  rest : List ℕ
  longer : long ≡ short ++ first ∷ others
  begins : word ≡ (first ∷ others) ++ rest

same_first : {x y : ℕ} {xs ys : List ℕ} → x ∷ xs ≡ y ∷ ys → x ≡ y
same_first e = cc

same_others : {x y : ℕ} {xs ys : List ℕ} → x ∷ xs ≡ y ∷ ys → xs ≡ ys
same_others e = cc

one_byte_more : {long short word : List ℕ} (x y : ℕ) → x ≡ y → IsLonger long short word → IsLonger (x ∷ long) (y ∷ short) word
one_byte_more {long} {short} x y same is = record {
  first = is.first;
  others = is.others;
  rest = is.rest;
  longer = ap (λ z. z ∷ long) same ∙ ap (λ zs. y ∷ zs) is.longer;
  begins = is.begins;
}

-- of two ways to part a text in two, one front is longer, or both are the same
parted : (f w g v : List ℕ) → f ++ w ≡ g ++ v → ((f ≡ g) × (w ≡ v)) ⊎ (IsLonger g f w ⊎ IsLonger f g v)
parted [] w [] v e = inl (refl, e)
parted [] w (y ∷ g) v e = inr (inl (record { first = y; others = g; rest = v; longer = refl; begins = e }))
parted (x ∷ f) w [] v e = inr (inr (record { first = x; others = f; rest = w; longer = refl; begins = sym e }))
parted (x ∷ f) w (y ∷ g) v e = by (parted f w g v (same_others e))
  where
    by : ((f ≡ g) × (w ≡ v)) ⊎ (IsLonger g f w ⊎ IsLonger f g v) → ((x ∷ f ≡ y ∷ g) × (w ≡ v)) ⊎ (IsLonger (y ∷ g) (x ∷ f) w ⊎ IsLonger (x ∷ f) (y ∷ g) v)
    by (inl both) = inl (ap (λ z. z ∷ f) (same_first e) ∙ ap (λ zs. y ∷ zs) both.0, both.1)
    by (inr (inl is)) = inr (inl (one_byte_more y x (sym (same_first e)) is))
    by (inr (inr is)) = inr (inr (one_byte_more x y (same_first e) is))

-- the last of some bytes
last_of : (b : ℕ) (bs : List ℕ) → (before : List ℕ) × (l : ℕ) × (b ∷ bs ≡ before ++ l ∷ []) × Contains (b ∷ bs) l
last_of b [] = ([], b, refl, (0, omega arith, refl))
last_of b (c ∷ bs) = let (before, l, is, (k, inside, at)) = last_of c bs in (b ∷ before, l, ap (λ xs. b ∷ xs) is, (suc k, omega (arith, inside), at))

module _ (text : List ℕ) (offset : ℕ) where
  -- no front reaches into the word of another
  not_longer : {front word rest long w r : List ℕ} → IsTypedAt text offset front word rest → IsTypedAt text offset long w r → IsLonger long front word → ⊥
  not_longer {front} {word} {long} one other is =
      let (before, l, ends, among) = last_of is.first is.others in
      let long_ends : long ≡ (front ++ before) ++ l ∷ [] =
      is.longer ∙ ap (λ xs. front ++ xs) ends ∙ sym (append_assoc front before (l ∷ [])) in
      other.longest (front ++ before) l long_ends
      (All-contains (λ b. is_word_part b ≡ true) word l one.are
      (subst (λ (bytes : List ℕ). Contains bytes l) (sym is.begins) (Contains-append_left (is.first ∷ is.others) is.rest l among)))

  pub one_word_typed : (front word rest other_front other_word other_rest : List ℕ) → IsTypedAt text offset front word rest →
      IsTypedAt text offset other_front other_word other_rest → (front ≡ other_front) × (word ≡ other_word) × (rest ≡ other_rest)
  one_word_typed front word rest other_front other_word other_rest one other =
      by (parted front word other_front other_word (sym one.before ∙ other.before))
    where
      by : ((front ≡ other_front) × (word ≡ other_word)) ⊎ (IsLonger other_front front word ⊎ IsLonger front other_front other_word) →
          (front ≡ other_front) × (word ≡ other_word) × (rest ≡ other_rest)
      by (inl both) = (both.0, both.1, sym one.behind ∙ other.behind)
      by (inr (inl is)) = absurd (not_longer one other is)
      by (inr (inr is)) = absurd (not_longer other one is)
