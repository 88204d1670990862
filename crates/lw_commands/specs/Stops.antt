-- Why a run stops, as a table: to each stop its status, and the object whose fault it tells.
use Rattle.std.specs.Prelude.{ℕ, ◌≡◌, ◌⊎◌, Bool, true, false, Result, Ok, Err}
use Rattle.lw_io.specs.Causes.{Faulted}
use Rattle.lw_io.specs.declared.whole.ReadFault.{ReadFault}
use Rattle.lw_io.specs.declared.whole.ReadFault.TheVariants as reading
use Rattle.lw_io.specs.declared.whole.WriteFault.{WriteFault}
use Rattle.lw_io.specs.declared.whole.WriteFault.TheVariants as writing
use Rattle.lw_load.specs.declared.fault.LoadFault.{LoadFault}
use Rattle.lw_load.specs.declared.fault.LoadFault.TheVariants as loading
use Rattle.lw_lang.specs.declared.told_term.PatternProblem.TheVariants.{Refused}
use Rattle.lw_lang.specs.declared.told_term.ToldTermFault.{ToldTermFault}
use Rattle.lw_lang.specs.declared.told_term.ToldTermFault.TheVariants as term
use Rattle.lw_lang.specs.declared.fault.CompileFault.{CompileFault}
use Rattle.lw_lang.specs.declared.fault.CompileFault.TheVariants as fault
use Rattle.lw_commands.specs.declared.named.FileFault.{FileFault}
use Rattle.lw_commands.specs.declared.named.FileFault.TheVariants as file
use Rattle.lw_commands.specs.declared.report.Verdict.{Verdict}
use Rattle.lw_commands.specs.declared.report.Verdict.TheVariants.{Whole, Broken}
use Rattle.lw_commands.specs.declared.stop.Stop.{Stop}
use Rattle.lw_commands.specs.declared.stop.Stop.TheVariants.{Words, Grammar, File, Read, Write, Memory, Frames, Limit}

-- the objects that are handed to a run, and may fail
pub data Object : Type 0 where
  TheSource : Object
  TheSink : Object
  TheStore : Object
  ThePatterns : Object

-- Whose count of faults has risen where a run stops: nobody's, or that of one object. Where there was no memory nothing is said of the counts.
pub data Blame : Type 0 where
  Nobody : Blame
  One : Object → Blame
  Unsaid : Blame

-- THE TABLE

-- a fault of loading
abbrev pub load_code : LoadFault → ℕ
load_code (loading.Absent path) = 6
load_code (loading.NotUtf8 path) = 6
load_code (loading.TooLong path) = 6
load_code (loading.StoreFault path) = 6
load_code (loading.Read path found at) = 3
load_code (loading.TooLarge path) = 3
load_code loading.NoMemory = 7

abbrev pub load_blame : LoadFault → Blame
load_blame (loading.StoreFault path) = One TheStore
load_blame loading.NoMemory = Unsaid
load_blame _ = Nobody

-- no set of tokens
abbrev pub term_blame : ToldTermFault → Blame
term_blame (term.Pattern terminal Refused) = One ThePatterns
term_blame _ = Nobody

-- a fault of the grammar
abbrev pub fault_code : CompileFault → ℕ
fault_code (fault.Load found) = load_code found
fault_code (fault.Faults told) = 3
fault_code (fault.Term told) = 3
fault_code (fault.Look told) = 3
fault_code fault.NoMemory = 7

abbrev pub fault_blame : CompileFault → Blame
fault_blame (fault.Load found) = load_blame found
fault_blame (fault.Faults told) = Nobody
fault_blame (fault.Term told) = term_blame told
fault_blame (fault.Look told) = Nobody
fault_blame fault.NoMemory = Unsaid

-- a file that the words name
abbrev pub file_blame : FileFault → Blame
file_blame (file.Failed path) = One TheStore
file_blame _ = Nobody

-- any stop
abbrev pub code_of : Stop → ℕ
code_of Words = 2
code_of (Grammar found) = fault_code found
code_of (File found) = 6
code_of Read = 4
code_of Write = 5
code_of Memory = 7
code_of (Frames found) = 8
code_of Limit = 10

abbrev pub blame_of : Stop → Blame
blame_of Words = Nobody
blame_of (Grammar found) = fault_blame found
blame_of (File found) = file_blame found
blame_of Read = One TheSource
blame_of Write = One TheSink
blame_of Memory = Unsaid
blame_of (Frames found) = Nobody
blame_of Limit = Nobody

-- the stop where a read, a write or the compiling of a grammar failed
abbrev pub stop_of_read : ReadFault → Stop
stop_of_read reading.Failed = Read
stop_of_read reading.NoMemory = Memory

abbrev pub stop_of_write : WriteFault → Stop
stop_of_write writing.Failed = Write
stop_of_write writing.NoMemory = Memory

abbrev pub stop_of_fault : CompileFault → Stop
stop_of_fault fault.NoMemory = Memory
stop_of_fault found = Grammar found

-- WHAT AN OUTCOME COMES TO

-- the status that an outcome ends with: for a stop its own, or 7 where there was no memory for the note
abbrev pub EndsWith : Result Verdict Stop → ℕ → Type 0
EndsWith (Ok Whole) code = code ≡ 0
EndsWith (Ok Broken) code = code ≡ 1
EndsWith (Err stop) code = (code ≡ code_of stop) ⊎ (code ≡ 7)

abbrev pub is_same : Object → Object → Bool
is_same TheSource TheSource = true
is_same TheSink TheSink = true
is_same TheStore TheStore = true
is_same ThePatterns ThePatterns = true
is_same _ _ = false

-- a count of faults rises by one, or stands still
abbrev pub CountsIf : Bool → ℕ → ℕ → Type 0
CountsIf true before now = Faulted before now
CountsIf false before now = now ≡ before

-- the count of an object, by whom a stop blames
abbrev pub CountsAt : Object → Blame → ℕ → ℕ → Type 0
CountsAt object Nobody before now = now ≡ before
CountsAt object (One blamed) before now = CountsIf (is_same object blamed) before now
CountsAt object Unsaid before now = Unit {0}

-- the count of an object, by the outcome
abbrev pub Counts : {T : Type 0} → Object → ℕ → ℕ → Result T Stop → Type 0
Counts object before now (Ok x) = now ≡ before
Counts object before now (Err stop) = CountsAt object (blame_of stop) before now
