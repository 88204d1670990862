-- A reader as its callers see it: the stream that it was fed, how far it has handed it out, and the bytes that it holds.
use Rattle.std.specs.Prelude.{◌≡◌, ℕ, ◌+◌, List, [], ◌++◌, length, take, drop, slice_get, Bool, true, false, Option, Some, None, Result, Ok, Err}
use Rattle.std.specs.List.{concat}
use Rattle.lw_frame.specs.Frames.{bodies_of, fault_of, rest_of}
use Rattle.lw_frame.specs.declared.fault.FrameFault.{FrameFault}

-- the bytes that a reader was fed, whether the stream was closed, and how many bodies were handed out
pub record Stream : Type 0 where
  pub fed : List ℕ
  pub closed : Bool
  pub given : ℕ

pub record Reader : Type 0 where
  pub stream : Stream
  pub held : List ℕ

abbrev pub start : Stream
start = record { fed = []; closed = false; given = 0 }

abbrev pub with_piece : Stream → List ℕ → Stream
with_piece s piece = record s { fed = s.fed ++ piece }

abbrev pub at_end : Stream → Stream
at_end s = record s { closed = true }

-- what is answered where this body comes next, if one does, and this is the fault, if there is one
abbrev pub answer_next : Option (List ℕ) → Option FrameFault → Result (Option (List ℕ)) FrameFault
answer_next (Some body) fault = Ok (Some body)
answer_next None (Some fault) = Err fault
answer_next None None = Ok None

-- the body that comes next
abbrev pub next_body : Stream → Option (List ℕ)
next_body s = slice_get (bodies_of s.fed) s.given

-- what `next` answers: the bodies in order, then the fault, else nothing
abbrev pub next_answer : Stream → Result (Option (List ℕ)) FrameFault
next_answer s = answer_next (next_body s) (fault_of s.fed s.closed)

-- the same, by the answer's case
abbrev pub AnswersStream : Stream → Result (Option (List ℕ)) FrameFault → Type 0
AnswersStream s (Ok (Some body)) = next_body s ≡ Some body
AnswersStream s (Ok None) = (next_body s ≡ None) × (fault_of s.fed s.closed ≡ None)
AnswersStream s (Err fault) = (next_body s ≡ None) × (fault_of s.fed s.closed ≡ Some fault)

abbrev pub handed : Option (List ℕ) → Stream → Stream
handed (Some body) s = record s { given = s.given + 1 }
handed None s = s

-- and what it leaves
abbrev pub after_next : Stream → Stream
after_next s = handed (next_body s) s

-- what the next bodies are made of: those that are there and were not handed out, and the bytes behind them, unless a fault ends the stream
abbrev pub unfinished : Option FrameFault → List ℕ → List ℕ
unfinished None rest = rest
unfinished (Some fault) rest = []

abbrev pub needed : Stream → List ℕ
needed s = concat (drop s.given (bodies_of s.fed)) ++ unfinished (fault_of s.fed false) (rest_of s.fed)

-- the bodies of a longer stream begin with those of the shorter one
abbrev pub BodiesStay : Stream → Stream → Type 0
BodiesStay old new = take (length (bodies_of old.fed)) (bodies_of new.fed) ≡ bodies_of old.fed

-- a fault is there for good, and no further body
abbrev pub FaultStays : Stream → Stream → Type 0
FaultStays old new = (fault : FrameFault) → fault_of old.fed false ≡ Some fault → (bodies_of new.fed ≡ bodies_of old.fed) × ((closed : Bool) → fault_of new.fed closed ≡ Some fault)
