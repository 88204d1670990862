-- Numbers in four digits.
use Rattle.std.proofs.Common.{◌≡◌, ℕ, zero, suc, ◌-◌, ◌^◌, ◌<◌, List, [], ◌++◌, false, codes, decimal, length, replicate, refl, sym, ap, ◌∙◌}
use Rattle.std.proofs.Math.Nat.{sub-zero}
use Rattle.std.proofs.lemmas.Fmt.{decimal_is_IsNumeral}
use Rattle.std.proofs.lemmas.List.{append-nil, append_cancel_left, append_cancel_right}
use Rattle.std.specs.Fmt.{char_count, format_spec, padded_integral}
use Rattle.std.specs.Str.Parse.{digits_value}
use Rattle.lw_make.specs.Made.{four_digits, made_address}

-- they are what the format of addresses writes
pub padded_to_four : (number : ℕ) → padded_integral (format_spec 32 0 4 4 (2 ^ 64 - 1)) false [] (decimal number) ≡ four_digits number
unfolding padded_integral four_digits char_count
padded_to_four number = simp (append-nil, sub-zero)

value-zeros : (zeros : ℕ) (digits : List ℕ) → digits_value 10 (replicate zeros 48 ++ digits) ≡ digits_value 10 digits
value-zeros zero digits = refl
value-zeros (suc zeros) digits = value-zeros zeros digits

value-four_digits : (number : ℕ) → number < 2 ^ 64 → digits_value 10 (four_digits number) ≡ number
unfolding four_digits
value-four_digits number small = value-zeros (4 - length (decimal number)) (decimal number) ∙ (decimal_is_IsNumeral number small).1

pub made_address-injective : (document other : ℕ) → document < 2 ^ 64 → other < 2 ^ 64 → made_address document ≡ made_address other → document ≡ other
made_address-injective document other small also same =
    let front = append_cancel_right (codes "file:///made/d" ++ four_digits document) (codes "file:///made/d" ++ four_digits other) (codes ".s") same in
    let digits = append_cancel_left (codes "file:///made/d") (four_digits document) (four_digits other) front in
    sym (value-four_digits document small) ∙ ap (digits_value 10) digits ∙ value-four_digits other also
