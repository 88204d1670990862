-- The message that is being read, and what a piece of the stream makes of it.
use Rattle.std.specs.Prelude.{◌≡◌, ℕ, ◌+◌, ◌-◌, max, ◌≤◌, List, [], ◌∷◌, ◌++◌, length, take, drop, Bool, true, false, ◌==◌, Option, Some, None}
use Rattle.std.specs.List.{list_any}
use Rattle.lw_frame.specs.Frames.{Split, split, bodies_of}
use Rattle.lw_frame.specs.Header.{faulty, whole, header_of}
use Rattle.lw_frame.specs.Stage.{IsAt}
use Rattle.lw_frame.specs.Wanted.{shortest_header, fewest_left}
use Rattle.lw_frame.specs.declared.fault.FrameFault.{FrameFault}
use Rattle.lw_frame.specs.declared.stage.Stage.{Stage}
use Rattle.lw_frame.specs.declared.stage.Stage.TheVariants as stage
use Rattle.lw_frame.specs.declared.incoming.Incoming.{Incoming}
use Rattle.lw_frame.specs.declared.incoming.Mark.{Mark}

-- the bytes that are there
abbrev pub bytes_of : Incoming → List ℕ
bytes_of m = m.header.items ++ m.body.items

-- its stage is that of its bytes
abbrev pub IsRead : Incoming → Type 0
IsRead m = IsAt m.stage m.start m.header.items m.body.items

abbrev pub is_whole : Stage → Bool
is_whole (stage.Header line given) = false
is_whole (stage.Content missing) = false
is_whole stage.Whole = true
is_whole (stage.Failed fault) = false

abbrev pub failure : Stage → Option FrameFault
failure (stage.Header line given) = None
failure (stage.Content missing) = None
failure stage.Whole = None
failure (stage.Failed fault) = Some fault

-- a further byte of the stream belongs to the message
abbrev pub is_waiting : Stage → Bool
is_waiting (stage.Header line given) = true
is_waiting (stage.Content missing) = true
is_waiting stage.Whole = false
is_waiting (stage.Failed fault) = false

abbrev pub is_newline : ℕ → Bool
is_newline b = b == 10

-- a part of the bytes from the first on, with no newline but for one at its end
pub record IsThroughNewline (bytes part : List ℕ) : Type 0 where
  pub earlier : List ℕ
  pub last : ℕ
  pub is : part ≡ earlier ++ last ∷ []
  pub none : list_any is_newline earlier ≡ false
  pub front : part ≡ take (length part) bytes
  pub within : length part ≤ length bytes

-- the first bytes of a piece were added to a message
pub record Grows (old new : Incoming) (piece : List ℕ) (used : ℕ) : Type 0 where
  pub start : new.start ≡ old.start
  pub bytes : bytes_of new ≡ bytes_of old ++ take used piece
  pub read : IsRead new
  pub within : used ≤ length piece

-- what a message had is still at its front
pub record KeepsFront (old new : Incoming) : Type 0 where
  pub start : new.start ≡ old.start
  pub header : take (length old.header.items) new.header.items ≡ old.header.items
  pub body : take (length old.body.items) new.body.items ≡ old.body.items

-- the mark of a message as it stands
pub record IsMarkOf (mark : Mark) (m : Incoming) : Type 0 where
  pub header : mark.header ≡ length m.header.items
  pub body : mark.body ≡ length m.body.items
  pub stage : mark.stage ≡ m.stage

-- nothing but capacities differs
pub record IsSame (old new : Incoming) : Type 0 where
  pub start : new.start ≡ old.start
  pub header : new.header.items ≡ old.header.items
  pub body : new.body.items ≡ old.body.items
  pub stage : new.stage ≡ old.stage

-- the split with more messages before it
abbrev pub with_bodies : List (List ℕ) → Split → Split
with_bodies bodies s = record s { bodies = bodies ++ s.bodies }

-- however the stream goes on, the bytes from offset `start` on are these bodies, and then the rest from offset `at` on
abbrev pub Continues : ℕ → List ℕ → List (List ℕ) → ℕ → List ℕ → Type 0
Continues start bytes bodies at rest = (more : List ℕ) → split start (bytes ++ more) ≡ with_bodies bodies (split at (rest ++ more))

-- the bytes from offset `start` on are these bodies, and then the message, with what is dropped behind a fault
pub record ReadsMessages (start : ℕ) (bytes : List ℕ) (bodies : List (List ℕ)) (m : Incoming) : Type 0 where
  pub dropped : List ℕ
  pub goes_on : Continues start bytes bodies m.start (bytes_of m ++ dropped)
  pub none_dropped : failure m.stage ≡ None → dropped ≡ []
  pub read : IsRead m
  pub unfinished : is_whole m.stage ≡ false
  pub end : m.start + length (bytes_of m) ≤ start + length bytes

-- The bytes from offset `start` on are these bodies, and then the message, which waits for further bytes.
pub record WaitsFor (start : ℕ) (bytes : List ℕ) (bodies : List (List ℕ)) (m : Incoming) : Type 0 where
  pub goes_on : Continues start bytes bodies m.start (bytes_of m)
  pub read : IsRead m
  pub waiting : is_waiting m.stage ≡ true
  pub end : m.start + length (bytes_of m) ≤ start + length bytes

-- However the stream goes on, the bytes from offset `start` on are these bodies, and then a fault. Nothing of the rest is held.
pub record EndsIn (fault : FrameFault) (start : ℕ) (bytes : List ℕ) (bodies : List (List ℕ)) (m : Incoming) : Type 0 where
  pub bodies_are : (more : List ℕ) → (split start (bytes ++ more)).bodies ≡ bodies
  pub fault_is : (more : List ℕ) → let s = split start (bytes ++ more) in header_of s.start s.rest ≡ faulty fault
  pub empty : bytes_of m ≡ []

-- what the bytes from offset `start` on come to: a message that waits, or a fault
abbrev pub ReadsTo : Option FrameFault → ℕ → List ℕ → List (List ℕ) → Incoming → Type 0
ReadsTo None start bytes bodies m = WaitsFor start bytes bodies m
ReadsTo (Some fault) start bytes bodies m = EndsIn fault start bytes bodies m

-- The piece finishes these bodies, whatever was fed before it, where the fault and the message stood for that.
pub record Feeds (piece : List ℕ) (known now : Option FrameFault) (old new : Incoming) (bodies : List (List ℕ)) : Type 0 where
  pub bodies_are : (fed : List ℕ) → ReadsTo known 0 fed (bodies_of fed) old → bodies_of (fed ++ piece) ≡ bodies_of fed ++ bodies
  pub reads_to : (fed : List ℕ) → ReadsTo known 0 fed (bodies_of fed) old → ReadsTo now 0 (fed ++ piece) (bodies_of (fed ++ piece)) new

-- no message that begins with these bytes ends before so many further ones are there
abbrev pub EndsBehind : ℕ → List ℕ → ℕ → Type 0
EndsBehind start bytes most = (piece : List ℕ) → length piece ≤ most → (size body : ℕ) → header_of start (bytes ++ piece) ≡ whole size body → length (bytes ++ piece) ≤ size + body

-- the fewest bytes that end the message
abbrev pub left_at : Stage → List ℕ → ℕ
left_at (stage.Header line given) header = max (shortest_header - length header) (fewest_left (drop line header))
left_at (stage.Content missing) header = missing
left_at stage.Whole header = 1
left_at (stage.Failed fault) header = 1
