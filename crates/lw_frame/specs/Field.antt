-- What one line is, as the code has it.
use Rattle.std.specs.Prelude.{ℕ, List, not, if◌then◌else◌, Option, Some, None}
use Rattle.std.specs.Str.{all_ascii_digits}
use Rattle.std.specs.Str.Parse.{digits_value}
use Rattle.lw_frame.specs.Header.{is_field, names_length, length_in}
use Rattle.lw_frame.specs.declared.field.Field.{Field}
use Rattle.lw_frame.specs.declared.field.Field.TheVariants.{Bad, Length, Other}

abbrev pub decimal_of : List ℕ → Option ℕ
decimal_of digits = if all_ascii_digits digits then Some (digits_value 10 digits) else None

abbrev pub field_with : Option ℕ → Field
field_with None = Bad
field_with (Some length) = Length length

abbrev pub field_of : List ℕ → Field
field_of line = if not (is_field line) then Bad else if names_length line then field_with (length_in line) else Other
