-- Words by their bytes.
use Rattle.std.proofs.Common.{◌≡◌, ◌≤◌, ◌<◌, ◌+◌, ◌-◌, ℕ, suc, List, [], ◌∷◌, ◌++◌, true, false, All, length, take, drop, slice_range, slice_index_or, refl, sym, ap, ◌∙◌, arith}
use Rattle.std.proofs.lemmas.Bool.Decides.{nat_tests}
use Rattle.std.proofs.Math.Seq.{get_or-append_seam}
use Rattle.std.proofs.lemmas.List.{drop_more, drop-take, get_or-take, length-append, length-take-le, take-append-drop, take-take}
use Rattle.lw_gramlex.specs.FileTokens.{is_word_part}
use Rattle.lw_places.specs.Words.{IsTypedAt}

pub is_ascii : (b : ℕ) → is_word_part b ≡ true → b < 128
is_ascii b is = grind (arith, nat_tests)

-- one byte more at the front
pub one_more : (text : List ℕ) (start off : ℕ) → 0 < start → start ≤ off → off ≤ length text →
    slice_range text (start - 1) off ≡ slice_index_or text (start - 1) 0 ∷ slice_range text start off
one_more text start off some within inside =
    let place : start ≡ (start - 1) + 1 = omega (arith, some) in
    let count : off - (start - 1) ≡ suc (off - start) = omega (arith, some, within) in
    ap (λ xs. take (off - (start - 1)) xs) (drop_more text (start - 1) 0 (omega (arith, some, within, inside)))
    ∙ ap (λ n. take n (slice_index_or text (start - 1) 0 ∷ drop ((start - 1) + 1) text)) count
    ∙ ap (λ k. slice_index_or text (start - 1) 0 ∷ take (off - start) (drop k text)) (sym place)

-- the text up to the offset, in two parts
pub two_parts : (text : List ℕ) (start off : ℕ) → start ≤ off → take off text ≡ take start text ++ slice_range text start off
two_parts text start off within =
    let count : off ≡ start + (off - start) = omega (arith, within) in
    sym (take-append-drop start (take off text))
    ∙ ap (λ xs. xs ++ drop start (take off text)) (take-take start off text within)
    ∙ ap (λ n. take start text ++ drop start (take n text)) count
    ∙ ap (λ xs. take start text ++ xs) (drop-take start (off - start) text)

-- the last byte of a text that ends with it
last_byte : (text others : List ℕ) (start b : ℕ) → 0 < start → start ≤ length text → take start text ≡ others ++ b ∷ [] → slice_index_or text (start - 1) 0 ≡ b
last_byte text others start b some inside ends =
    let counted : length others + 1 ≡ start = sym (length-append others (b ∷ [])) ∙ sym (ap length ends) ∙ length-take-le start text inside in
    let place : start - 1 ≡ length others = omega (arith, counted) in
    sym (get_or-take start text (start - 1) 0 (omega (arith, some)))
    ∙ ap (λ xs. slice_index_or xs (start - 1) 0) ends
    ∙ ap (λ k. slice_index_or (others ++ b ∷ []) k 0) place
    ∙ get_or-append_seam others b [] 0

pub typed_at : (text : List ℕ) (start off : ℕ) → start ≤ off → off ≤ length text → All (λ b. is_word_part b ≡ true) (slice_range text start off) →
    (0 < start → is_word_part (slice_index_or text (start - 1) 0) ≡ false) → IsTypedAt text off (take start text) (slice_range text start off) (drop off text)
typed_at text start off within inside are stops = record {
  inside = inside;
  before = two_parts text start off within;
  behind = refl;
  are = are;
  longest = longest;
}
  where
    longest : (others : List ℕ) (b : ℕ) → take start text ≡ others ++ b ∷ [] → ¬ (is_word_part b ≡ true)
    longest others b ends is =
        let counted : length others + 1 ≡ start = sym (length-append others (b ∷ [])) ∙ sym (ap length ends) ∙ length-take-le start text (omega (arith, within, inside)) in
        let some : 0 < start = omega (arith, counted) in
        let same : slice_index_or text (start - 1) 0 ≡ b = last_byte text others start b some (omega (arith, within, inside)) ends in
        differ (sym (stops some) ∙ ap is_word_part same ∙ is)
      where
        differ : false ≡ true → ⊥
        differ e = cc
