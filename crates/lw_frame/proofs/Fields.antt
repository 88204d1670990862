-- A line by the place of its first colon.
use Rattle.std.proofs.Common.{◌≡◌, ◌∙◌, ◌≢◌, ◌<◌, ◌+◌, ℕ, List, length, take, drop, codes, true, false, not, if◌then◌else◌, Some, None, refl, sym, ap, arith, ltb, eqb, min, length-take}
use Rattle.std.proofs.lemmas.Bool.Decides.{nat_tests}
use Rattle.std.specs.List.{position, position_or_len, list_any}
use Rattle.std.specs.Str.{str_eq_ignore_ascii_case}
use Rattle.lw_frame.proofs.Places.{list_any-position, found_place, no_place}
use Rattle.lw_frame.specs.Header.{is_colon, is_field, name, names_length, number, length_in, without_blanks_before, without_blanks_after}
use Rattle.lw_frame.specs.Field.{field_of, field_with}
use Rattle.lw_frame.specs.declared.field.Field.TheVariants.{Bad, Other}

no_name : (p n : ℕ) → ltb p n ≡ true → 0 < p → not (eqb (min p n) 0) ≡ true
no_name p n h q = grind (arith, nat_tests)

-- a line with a name and a colon is a field
is_field_by_place : (line : List ℕ) (i : ℕ) → position is_colon line ≡ Some i → 0 < i → is_field line ≡ true
is_field_by_place line i e h =
    let found = found_place (ltb (position_or_len is_colon line) (length line)) (position_or_len is_colon line) i e in
    let some : list_any is_colon line ≡ true = list_any-position is_colon line ∙ found.0 in
    let named : not (eqb (length (name line)) 0) ≡ true = ap (λ n. not (eqb n 0)) (length-take (position_or_len is_colon line) line) ∙ no_name _ _ found.0 (omega (arith, found.1)) in
    rw (some, named) refl

-- what the field is, by its name and its value
pub field_by_place : (line : List ℕ) (i : ℕ) → position is_colon line ≡ Some i → i ≢ 0
    → (if str_eq_ignore_ascii_case (take i line) (codes "content-length") then field_with (number (without_blanks_after (without_blanks_before (drop (i + 1) line)))) else Other) ≡ field_of line
field_by_place line i e h =
    let found = found_place (ltb (position_or_len is_colon line) (length line)) (position_or_len is_colon line) i e in
    let field : is_field line ≡ true = is_field_by_place line i e (omega arith) in
    let as_read : (λ (j : ℕ). if str_eq_ignore_ascii_case (take j line) (codes "content-length") then field_with (number (without_blanks_after (without_blanks_before (drop (j + 1) line)))) else Other) i ≡ (if names_length line then field_with (length_in line) else Other) =
    ap (λ (j : ℕ). if str_eq_ignore_ascii_case (take j line) (codes "content-length") then field_with (number (without_blanks_after (without_blanks_before (drop (j + 1) line)))) else Other) (sym found.1) in
    as_read ∙ sym (ap (λ b. if not b then Bad else if names_length line then field_with (length_in line) else Other) field)

-- no colon, no field
pub no_field : (line : List ℕ) → position is_colon line ≡ None → Bad ≡ field_of line
no_field line e =
    let none : list_any is_colon line ≡ false = list_any-position is_colon line ∙ no_place _ _ e in
    rw none refl
