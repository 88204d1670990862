-- How far the message that is being read has come.
use Rattle.std.specs.Prelude.{◌≡◌, ℕ, ◌+◌, ◌<◌, List, [], ◌∷◌, ◌++◌, length, drop, nat_eq, nat_lt, ◌==◌, Bool, true, false, not, ◌&&◌, if◌then◌else◌, Option, Some, None, is_some}
use Rattle.std.specs.List.{starts_with, list_all, list_any}
use Rattle.lw_frame.specs.Lines.{line_end, joined, is_empty}
use Rattle.lw_frame.specs.Header.{Header, faulty, whole, header_of, before_bad, length_of, names_length}
use Rattle.lw_frame.specs.declared.fault.FrameFault.TheVariants.{BadHeader, NoLength, TooLong}
use Rattle.lw_frame.specs.declared.field.Field.{Field}
use Rattle.lw_frame.specs.declared.field.Field.TheVariants.{Length, Other, Bad}
use Rattle.lw_frame.specs.declared.stage.Stage.{Stage}
use Rattle.lw_frame.specs.declared.stage.Stage.TheVariants as stage
use Rattle.lw_frame.specs.declared.limits.TheConstants.{LONGEST_HEADER_PART, LONGEST_BODY}

-- no line end stands in the bytes
abbrev pub is_open : List ℕ → Bool
is_open [] = true
is_open (b ∷ bytes) = not (starts_with nat_eq (b ∷ bytes) line_end) && is_open bytes

-- The lines of a header part so far, each of them good, and the length that they give.
pub record AreGood (ls : List (List ℕ)) (given : Option ℕ) : Type 0 where
  pub cut : list_all is_open ls ≡ true
  pub filled : list_any is_empty ls ≡ false
  pub good : before_bad [] ls ≡ None
  pub gives : length_of ls ≡ given
  pub named : list_any names_length ls ≡ is_some given

-- A header part of these bytes, whose current line begins at `line`. No line end stands in the current line but for one at its end.
pub record IsHeader (header : List ℕ) (line : ℕ) (given : Option ℕ) : Type 0 where
  pub before : List (List ℕ)
  pub good : AreGood before given
  pub line_is : line ≡ length (joined before)
  pub bytes : header ≡ joined before ++ drop line header

-- what the header part says, however the stream goes on
abbrev pub HeaderSays : ℕ → List ℕ → Header → Type 0
HeaderSays start header said = (more : List ℕ) → header_of start (header ++ more) ≡ said

-- the stage is that of a message with these bytes of its header part and its body
abbrev pub IsAt : Stage → ℕ → List ℕ → List ℕ → Type 0
IsAt (stage.Header line given) start header body = (body ≡ []) × IsHeader header line given × (is_open (drop line header) ≡ true) × (length header < LONGEST_HEADER_PART)
IsAt (stage.Content missing) start header body = HeaderSays start header (whole (length header) (length body + missing)) × (0 < missing)
IsAt stage.Whole start header body = HeaderSays start header (whole (length header) (length body))
IsAt (stage.Failed fault) start header body = (body ≡ []) × HeaderSays start header (faulty fault)

-- in a header part of so many bytes that has not ended
abbrev pub stage_within : ℕ → ℕ → ℕ → Option ℕ → Stage
stage_within start size line given = if size == LONGEST_HEADER_PART then stage.Failed (BadHeader start) else stage.Header line given

-- behind a header part that has ended
abbrev pub stage_behind : ℕ → Option ℕ → Stage
stage_behind start None = stage.Failed (NoLength start)
stage_behind start (Some n) = if nat_lt LONGEST_BODY n then stage.Failed (TooLong n) else if n == 0 then stage.Whole else stage.Content n

-- behind a line that is not empty
abbrev pub stage_after : ℕ → ℕ → ℕ → Field → Option ℕ → Stage
stage_after start size line Other given = stage_within start size size given
stage_after start size line (Length n) None = stage_within start size size (Some n)
stage_after start size line (Length n) (Some m) = stage.Failed (BadHeader (start + line))
stage_after start size line Bad given = stage.Failed (BadHeader (start + line))

-- no line end stands in the current line, but for one at its end
abbrev pub IsGrown : List ℕ → Type 0
IsGrown current = (earlier : List ℕ) × (last : ℕ) × (current ≡ earlier ++ last ∷ []) × (is_open earlier ≡ true)
