-- The header part of a message. Language Server Protocol 3.17, Base Protocol, Header Part: header fields, each a name, a colon and a
-- value, and an empty line that ends them. `Content-Length` is the number of bytes of the body. As in HTTP, names are compared without
-- ASCII case, and blanks around a value do not count; fields other than `Content-Length` are ignored.
use Rattle.std.specs.Prelude.{ℕ, ◌+◌, ◌-◌, List, [], ◌∷◌, ◌++◌, length, take, drop, codes, find, ◌==◌, nat_le, nat_lt, Bool, not, ◌&&◌, ◌||◌, if◌then◌else◌, Option, Some, None, is_some, option_and_then}
use Rattle.std.specs.List.{before_first, after_first, prefix_len, suffix_len, list_any}
use Rattle.std.specs.Str.{all_ascii_digits, str_eq_ignore_ascii_case}
use Rattle.std.specs.Str.Parse.{digits_value}
use Rattle.lw_frame.specs.Lines.{lines, joined, is_empty}
use Rattle.lw_frame.specs.declared.fault.FrameFault.{FrameFault}
use Rattle.lw_frame.specs.declared.fault.FrameFault.TheVariants.{BadHeader, NoLength, TooLong}
use Rattle.lw_frame.specs.declared.limits.TheConstants.{LONGEST_HEADER_PART, LONGEST_BODY}

-- A FIELD

abbrev pub is_colon : ℕ → Bool
is_colon b = b == 58

abbrev pub name : List ℕ → List ℕ
name line = before_first is_colon line

abbrev pub value : List ℕ → List ℕ
value line = after_first is_colon line

-- there is a colon, and a name before it
abbrev pub is_field : List ℕ → Bool
is_field line = list_any is_colon line && not (is_empty (name line))

abbrev pub names_length : List ℕ → Bool
names_length line = str_eq_ignore_ascii_case (name line) (codes "content-length")

-- a space or a tab
abbrev pub is_blank : ℕ → Bool
is_blank b = (b == 32) || (b == 9)

abbrev pub without_blanks_before : List ℕ → List ℕ
without_blanks_before text = drop (prefix_len is_blank text) text

abbrev pub without_blanks_after : List ℕ → List ℕ
without_blanks_after text = take (length text - suffix_len is_blank text) text

-- the number that 1 to 10 digits write
abbrev pub number : List ℕ → Option ℕ
number text = if nat_le 1 (length text) && nat_le (length text) 10 && all_ascii_digits text then Some (digits_value 10 text) else None

-- the length that a field gives
abbrev pub length_in : List ℕ → Option ℕ
length_in line = number (without_blanks_after (without_blanks_before (value line)))

-- ALL FIELDS

-- a line is good behind the lines before it: a field, and where it is named `Content-Length`, a length and the first one
abbrev pub is_good : List (List ℕ) → List ℕ → Bool
is_good before line = is_field line && (not (names_length line) || (is_some (length_in line) && not (list_any names_length before)))

-- the lines before the first that is not good, where there is one
abbrev pub before_bad : List (List ℕ) → List (List ℕ) → Option (List (List ℕ))
before_bad before [] = None
before_bad before (line ∷ others) = if is_good before line then before_bad (before ++ line ∷ []) others else Some before

-- the length that the fields give
abbrev pub length_of : List (List ℕ) → Option ℕ
length_of fields = option_and_then length_in (find names_length fields)

-- A HEADER PART

-- what the bytes of a stream from a message's start on say of its header part
pub data Header : Type 0 where
  -- it has not ended yet
  unfinished : Header
  -- it makes the stream faulty
  faulty : FrameFault → Header
  -- it ends after so many bytes, and gives the length of the body
  whole : (size body : ℕ) → Header

-- the lines that end within the limit
abbrev pub near_lines : List ℕ → List (List ℕ)
near_lines bytes = lines (take LONGEST_HEADER_PART bytes)

-- those before the empty line, and whether there is an empty line
abbrev pub fields : List ℕ → List (List ℕ)
fields bytes = before_first is_empty (near_lines bytes)

abbrev pub has_end : List ℕ → Bool
has_end bytes = list_any is_empty (near_lines bytes)

-- of a header part that begins at offset `start` and has ended
abbrev pub ended : ℕ → ℕ → Option ℕ → Header
ended start size None = faulty (NoLength start)
ended start size (Some body) = if nat_lt LONGEST_BODY body then faulty (TooLong body) else whole size body

-- of one whose lines so far are good
abbrev pub good_so_far : ℕ → List ℕ → Header
good_so_far start bytes =
    if has_end bytes then ended start (length (joined (fields bytes)) + 2) (length_of (fields bytes))
    else if nat_le LONGEST_HEADER_PART (length bytes) then faulty (BadHeader start)
    else unfinished

-- with the first line that is not good
abbrev pub judged : ℕ → Option (List (List ℕ)) → Header → Header
judged start (Some before) header = faulty (BadHeader (start + length (joined before)))
judged start None header = header

-- of one that begins at offset `start` of the stream: a line is judged once its line end is there, the limit once its last byte is, the
-- length once the header part has ended, and the first of these places in the stream decides
abbrev pub header_of : ℕ → List ℕ → Header
header_of start bytes = judged start (before_bad [] (fields bytes)) (good_so_far start bytes)
