-- The note of why a run stopped, which is written beside what it prints: one line, or one for each fault of a grammar. A place is told as compilers tell one, `PATH:LINE:COL: WHAT`,
-- with line and column counted from 1 and columns in UTF-16 units (Language Server Protocol 3.17, "Position").
use Rattle.std.specs.Prelude.{ℕ, ◌≡◌, ◌⊎◌, List, ◌++◌, codes, Option, Result, Ok, Err, IfSome}
use Rattle.std.specs.Io.KnownBytes.{Appends, Keeps}
use Rattle.std.specs.Fmt.{decimal}
use Rattle.std.specs.List.{flat_map}
use Rattle.lw_frame.specs.declared.fault.FrameFault.{FrameFault}
use Rattle.lw_frame.specs.declared.fault.FrameFault.TheVariants as frame
use Rattle.lw_text.specs.declared.place.Pos.{Pos}
use Rattle.lw_gramread.specs.FormTexts.{form_text}
use Rattle.lw_gramread.specs.declared.reader.ReadFault.{ReadFault}
use Rattle.lw_gramread.specs.declared.reader.ReadFault.TheVariants as refusal
use Rattle.lw_load.specs.declared.fault.LoadFault.{LoadFault}
use Rattle.lw_load.specs.declared.fault.LoadFault.TheVariants as loading
use Rattle.lw_lang.specs.declared.told.told.ToldFault.{ToldFault}
use Rattle.lw_lang.specs.Texts.{fault_text}
use Rattle.lw_lang.specs.declared.told_term.PatternProblem.{PatternProblem}
use Rattle.lw_lang.specs.declared.told_term.PatternProblem.TheVariants as problem
use Rattle.lw_lang.specs.declared.told_term.ToldTermFault.{ToldTermFault}
use Rattle.lw_lang.specs.declared.told_term.ToldTermFault.TheVariants as term
use Rattle.lw_lang.specs.declared.told_look.ToldConflict.{ToldConflict}
use Rattle.lw_lang.specs.declared.told_look.ToldLookFault.{ToldLookFault}
use Rattle.lw_lang.specs.declared.told_look.ToldLookFault.TheVariants as look
use Rattle.lw_lang.specs.declared.fault.CompileFault.{CompileFault}
use Rattle.lw_lang.specs.declared.fault.CompileFault.TheVariants as fault
use Rattle.lw_commands.specs.declared.named.FileFault.{FileFault}
use Rattle.lw_commands.specs.declared.named.FileFault.TheVariants as file
use Rattle.lw_commands.specs.declared.report.Verdict.{Verdict}
use Rattle.lw_commands.specs.declared.stop.Stop.{Stop}
use Rattle.lw_commands.specs.declared.stop.Stop.TheVariants as stop
use Rattle.lw_commands.specs.Checked.{line, printed}
use Rattle.lw_commands.specs.Serving.{WritesPart}

-- LINES

abbrev pub usage_line : List ℕ
usage_line = line (codes "usage: langbench check|serve|replay|make GRAMMAR [--lookahead K] [FILE or N]")

abbrev pub read_line : List ℕ
read_line = line (codes "read failed")

abbrev pub write_line : List ℕ
write_line = line (codes "write failed")

abbrev pub memory_line : List ℕ
memory_line = line (codes "out of memory")

abbrev pub limit_line : List ℕ
limit_line = line (codes "input limit reached")

-- a fault of the frames of a session; offsets and lengths are bytes
abbrev pub frame_line : FrameFault → List ℕ
frame_line (frame.BadHeader at) = line (codes "frame header fault at byte " ++ decimal at)
frame_line (frame.NoLength at) = line (codes "frame without length at byte " ++ decimal at)
frame_line (frame.TooLong size) = codes "frame of " ++ decimal size ++ line (codes " bytes is too long")
frame_line (frame.Truncated missing) = codes "frame truncated: " ++ decimal missing ++ line (codes " bytes missing")

-- what is wrong with a file
abbrev pub file_line : List ℕ → List ℕ → List ℕ
file_line path what = line (path ++ codes ": " ++ what)

-- what is wrong at a position of a file
abbrev pub placed_line : List ℕ → Pos → List ℕ → List ℕ
placed_line path at what = file_line (path ++ codes ":" ++ printed at) what

-- what is wrong with a grammar as a whole is told at the start of the file that the words name
abbrev pub whole_line : List ℕ → List ℕ → List ℕ
whole_line path what = placed_line path (record { line = 0; character = 0 }) what

-- how a file that says no grammar was refused
abbrev pub refusal_text : ReadFault → List ℕ
refusal_text (refusal.Unexpected s) = codes "unexpected token"
refusal_text (refusal.LeftOut s form) = codes "left out: " ++ form_text form
refusal_text (refusal.TooDeep s) = codes "too deep"
refusal_text refusal.NoMemory = codes "out of memory"

-- why the files of the grammar at this path were not loaded
abbrev pub load_line : List ℕ → LoadFault → List ℕ
load_line path (loading.Absent p) = file_line p (codes "absent")
load_line path (loading.NotUtf8 p) = file_line p (codes "not UTF-8")
load_line path (loading.TooLong p) = file_line p (codes "too long")
load_line path (loading.StoreFault p) = file_line p (codes "failed")
load_line path (loading.Read p found at) = placed_line p at (refusal_text found)
load_line path (loading.TooLarge p) = whole_line path (codes "grammar too large")
load_line path loading.NoMemory = memory_line

-- a fault that was found in the grammar, and each of them
abbrev pub told_line : ToldFault → List ℕ
told_line told = placed_line told.path told.at (codes "fault " ++ decimal told.number ++ codes ": " ++ fault_text told.number ++ codes ": " ++ told.name)

abbrev pub told_lines : List ToldFault → List ℕ
told_lines told = flat_map told_line told

-- what is wrong with the pattern of a terminal
abbrev pub problem_text : PatternProblem → List ℕ
problem_text (problem.Long bytes) = codes "pattern too long"
problem_text problem.Refused = codes "pattern refused"
problem_text problem.MatchesEmpty = codes "matches nothing"

-- why the grammar at this path has no set of tokens
abbrev pub term_line : List ℕ → ToldTermFault → List ℕ
term_line path (term.TooManyKinds count) = whole_line path (codes "too many kinds: " ++ decimal count)
term_line path (term.KeywordBlank place) = placed_line place.path place.at (codes "blank keyword")
term_line path (term.Pattern terminal found) =
    placed_line terminal.place.path terminal.place.at (codes "terminal " ++ terminal.name ++ codes ": " ++ problem_text found)

-- which ways of a choice share what
abbrev pub conflict_text : ToldConflict → List ℕ
conflict_text told =
    codes "lookahead " ++ decimal told.k ++ codes ": ways " ++ decimal told.first ++ codes " and " ++ decimal told.second ++ codes " share " ++ told.shared

-- why the grammar at this path has no tables
abbrev pub look_line : List ℕ → ToldLookFault → List ℕ
look_line path look.TooMany = whole_line path (codes "too many lookahead strings")
look_line path (look.Conflict told) = placed_line told.place.path told.place.at (conflict_text told)

-- a fault of the grammar at this path
abbrev pub fault_line : List ℕ → CompileFault → List ℕ
fault_line path (fault.Load found) = load_line path found
fault_line path (fault.Faults told) = told_lines told
fault_line path (fault.Term told) = term_line path told
fault_line path (fault.Look told) = look_line path told
fault_line path fault.NoMemory = memory_line

-- why a file that the words name was not read
abbrev pub unread_line : FileFault → List ℕ
unread_line (file.Absent path) = file_line path (codes "absent")
unread_line (file.NotUtf8 path) = file_line path (codes "not UTF-8")
unread_line (file.TooLong path) = file_line path (codes "too long")
unread_line (file.Failed path) = file_line path (codes "failed")

-- why a run stopped, where this is the path of the grammar that its words name
abbrev pub IsStopLine : Option (List ℕ) → Stop → List ℕ → Type 0
IsStopLine path stop.Words output = output ≡ usage_line
IsStopLine path (stop.Grammar found) output = IfSome path (λ p. output ≡ fault_line p found)
IsStopLine path (stop.File found) output = output ≡ unread_line found
IsStopLine path stop.Read output = output ≡ read_line
IsStopLine path stop.Write output = output ≡ write_line
IsStopLine path stop.Memory output = output ≡ memory_line
IsStopLine path (stop.Frames found) output = output ≡ frame_line found
IsStopLine path stop.Limit output = output ≡ limit_line

-- WHAT IS ADDED TO THE NOTES

-- the line of a stop
abbrev pub NotesStop : Option (List ℕ) → Stop → Option (List ℕ) → Option (List ℕ) → Type 0
NotesStop path found old new = (output : List ℕ) × IsStopLine path found output × Appends old new output

-- by what the work answered: nothing where it was done
abbrev pub NotesOutcome : Option (List ℕ) → Result Verdict Stop → Option (List ℕ) → Option (List ℕ) → Type 0
NotesOutcome path (Ok verdict) old new = Keeps old new
NotesOutcome path (Err found) old new = NotesStop path found old new

-- WHATEVER FAILS

-- a front of the line of a stop, which may be all of it, or nothing
abbrev pub NotesPart : Option (List ℕ) → Stop → Option (List ℕ) → Option (List ℕ) → Type 0
NotesPart path found old new = Keeps old new ⊎ ((output : List ℕ) × IsStopLine path found output × WritesPart old new output)

abbrev pub NotesOutcomePart : Option (List ℕ) → Result Verdict Stop → Option (List ℕ) → Option (List ℕ) → Type 0
NotesOutcomePart path (Ok verdict) old new = Keeps old new
NotesOutcomePart path (Err found) old new = NotesPart path found old new
