-- How many bytes of a stream can be taken before the message that is being read ends. Language Server Protocol 3.17, Base Protocol: a header
-- part ends with an empty line, and a message with the last byte of its content part; what stands behind that byte is not of the message.
use Rattle.std.specs.Prelude.{◌≡◌, ℕ, ◌-◌, max, ◌≤◌, ◌⊎◌, List, [], ◌∷◌, ◌++◌, length, drop, nat_eq, ◌==◌, if◌then◌else◌, Bool, Some, None}
use Rattle.std.specs.List.{ends_with}
use Rattle.lw_frame.specs.Lines.{is_empty, current_line}
use Rattle.lw_frame.specs.Header.{Header, unfinished, faulty, whole, header_of}
use Rattle.lw_frame.specs.Frames.{split, bodies_of, fault_of, rest_of}
use Rattle.lw_frame.specs.Stream.{Stream, with_piece, next_body, after_next, needed}

-- HOW MANY

-- the bytes of the shortest header part that gives a length: `Content-Length:0` and two line ends
abbrev pub shortest_header : ℕ
shortest_header = 20

-- the fewest bytes that end a header part behind its current line so far: the line end of the empty line, and before it, where another line
-- has begun, the line end of that line
abbrev pub fewest_left : List ℕ → ℕ
fewest_left line = if is_empty line then 2 else if ends_with nat_eq line (13 ∷ []) then (if length line == 1 then 1 else 3) else 4

-- the message that is being read goes on for at least so many bytes: in its header part, which is no shorter than the shortest one, and in its
-- body, where they are all that is missing; behind a fault no message is read, and the number says nothing
abbrev pub bytes_left : Header → List ℕ → ℕ
bytes_left unfinished rest = max (shortest_header - length rest) (fewest_left (current_line rest))
bytes_left (faulty fault) rest = 1
bytes_left (whole size body) rest = body - length (drop size rest)

abbrev pub wanted_of : List ℕ → ℕ
wanted_of fed = let s = split 0 fed in bytes_left (header_of s.start s.rest) s.rest

-- AND NO MORE

-- a piece brings no further body, or it brings one and ends with the last byte of that message: nothing is behind it, and no fault
abbrev pub EndsWithin : List ℕ → List ℕ → Type 0
EndsWithin fed piece = (bodies_of (fed ++ piece) ≡ bodies_of fed)
    ⊎ ((body : List ℕ) × (bodies_of (fed ++ piece) ≡ bodies_of fed ++ body ∷ []) × (rest_of (fed ++ piece) ≡ []) × ((closed : Bool) → fault_of (fed ++ piece) closed ≡ None))

-- no piece of at most so many bytes goes past the end of the message
abbrev pub StaysWithin : List ℕ → ℕ → Type 0
StaysWithin fed most = (piece : List ℕ) → length piece ≤ most → EndsWithin fed piece

-- where no body was left, and a piece of at most so many bytes brings one, nothing is needed any more once that body was handed out
abbrev pub LeavesNothing : Stream → ℕ → Type 0
LeavesNothing s most = (piece body : List ℕ) → length piece ≤ most → next_body s ≡ None → next_body (with_piece s piece) ≡ Some body → needed (after_next (with_piece s piece)) ≡ []
