-- A text that begins with a front and goes on with a byte behind it.
use Rattle.std.proofs.Common.{◌≡◌, ℕ, suc, zero, [], ◌<◌, List, ◌∷◌, ◌++◌, length, take, drop, true, false, get_or, refl, arith, nat_eq, sym, ap, ap₂, ◌∙◌, slice_index_or}
use Rattle.std.specs.List.{starts_with}
use Rattle.std.proofs.lemmas.List.{take-append-drop}
use Rattle.std.proofs.lemmas.Slice.Eq.{bytes_eq-Decides}
use Rattle.lw_lexer.specs.Fronts.{BeginsWithFront}
use Rattle.lw_lexer.specs.declared.front.Front.{Front}

-- what is left of a list from a place on begins with what stands there
left_at : (xs : List ℕ) (n : ℕ) → n < length xs → (more : List ℕ) × (drop n xs ≡ get_or xs n 0 ∷ more)
left_at [] n within = absurd (omega (arith, within))
left_at (x ∷ xs) zero within = (xs, refl)
left_at (x ∷ xs) (suc n) within = left_at xs n (omega (arith, within))

pub goes_on : (front : Front) (text : List ℕ) (byte : ℕ) → starts_with nat_eq text front.text ≡ true → length front.text < length text →
    byte ≡ get_or text (length front.text) 0 → slice_index_or front.ends byte false ≡ true → BeginsWithFront front text
goes_on front text byte begins within next on =
    let left = left_at text (length front.text) within in
    let first : front.text ≡ take (length front.text) text = (bytes_eq-Decides front.text (take (length front.text) text)).0 begins in
    record {
      byte = byte;
      more = left.0;
      are = sym (take-append-drop (length front.text) text)
          ∙ ap₂ (λ (xs ys : List ℕ). xs ++ ys) (sym first) (left.1 ∙ ap (λ (b : ℕ). b ∷ left.0) (sym next));
      ends = on;
    }
