-- The value of a number's token.
use mir.Syntax.{w64}
use Rattle.std.proofs.Common.{ℕ, ℤ, ◌≡◌, ◌<◌, List, length, get_or, refl, subst, ap, ◌∙◌, FitsSigned, IsTrue, Bool, false, ◌==◌, arith}
use Rattle.std.specs.Int.{IsInRange}
use Rattle.std.specs.Str.Parse.{IsNumeral, AllDigits, without_leading_sign, signed_digits_value}
use Rattle.std.proofs.lemmas.Bool.Decides.{nat_tests}
use Rattle.std.proofs.lemmas.Str.Parse.{numerals_by_value, tells_by_index, digit_at}
use Rattle.lw_base.specs.declared.token.Span.{Span}
use Rattle.lw_tree.specs.declared.node.Value.TheVariants as value
use Rattle.lw_reading.specs.Grown.{Plain, Number, Huge, Raw, as_value}
use Rattle.lw_reading.specs.Values.{NumberMeans, fits, too_large, no_number}

pub digits_by_index : (ds : List ℕ) → ((i : ℕ) → i < length ds → IsInRange 48 57 (get_or ds i 0)) → AllDigits 10 ds
digits_by_index ds h = (numerals_by_value (λ ds. (i : ℕ) → i < length ds → IsInRange 48 57 (get_or ds i 0)) tells_by_index).to ds h

pub becomes_number : (text t : List ℕ) (s : Span) (n : ℤ) → t ≡ text → IsNumeral 10 (without_leading_sign t) → FitsSigned w64 (signed_digits_value 10 t) →
    n ≡ signed_digits_value 10 t → (x : Plain) × NumberMeans text s x × (value.Number n s ≡ as_value x)
becomes_number text t s n same numeral fit is =
    let P : List ℕ → Type 0 = λ l. IsNumeral 10 (without_leading_sign l) in
    let Q : List ℕ → Type 0 = λ l. FitsSigned w64 (signed_digits_value 10 l) in (
      Number (signed_digits_value 10 text) s,
      fits (subst P same numeral) (subst Q same fit),
      ap (λ k. value.Number k s) (is ∙ ap (λ l. signed_digits_value 10 l) same),
    )

pub becomes_huge : (text t u : List ℕ) (s : Span) → t ≡ text → u ≡ text → ¬ (IsNumeral 10 (without_leading_sign t) × FitsSigned w64 (signed_digits_value 10 t)) →
    IsNumeral 10 (without_leading_sign u) → (x : Plain) × NumberMeans text s x × (value.Huge s ≡ as_value x)
becomes_huge text t u s same same' not numeral =
    let P : List ℕ → Type 0 = λ l. IsNumeral 10 (without_leading_sign l) in
    let N : List ℕ → Type 0 = λ l. ¬ (IsNumeral 10 (without_leading_sign l) × FitsSigned w64 (signed_digits_value 10 l)) in
    let here : IsNumeral 10 (without_leading_sign text) = subst P same' numeral in
    (Huge s, too_large here (λ fit. (subst N same not) (here, fit)), refl)

pub becomes_raw : (text u : List ℕ) (s : Span) → u ≡ text → ¬ IsNumeral 10 (without_leading_sign u) →
    (x : Plain) × NumberMeans text s x × (value.Raw text s ≡ as_value x)
becomes_raw text u s same not =
    let N : List ℕ → Type 0 = λ l. ¬ IsNumeral 10 (without_leading_sign l) in
    (Raw text s, no_number (subst N same not), refl)

pub numeral_told : (r : Bool) (ds text : List ℕ) → ds ≡ text → {empty : Bool} → empty ≡ false → empty ≡ (length ds == 0) →
    (IsTrue r → (k : ℕ) → k < length ds → IsInRange 48 57 (get_or ds k 0)) → (((k : ℕ) → k < length ds → IsInRange 48 57 (get_or ds k 0)) → IsTrue r) →
    (IsTrue r → IsNumeral 10 text) × (IsNumeral 10 text → IsTrue r)
numeral_told r ds text same not is to from =
    let P : List ℕ → Type 0 = λ l. (IsTrue r → IsNumeral 10 l) × (IsNumeral 10 l → IsTrue r) in
    let some : 0 < length ds = grind (arith, nat_tests) in
    subst P same (λ t. (some, digits_by_index ds (to t)), λ n. from (λ k lt. digit_at ds k n.1 lt))
