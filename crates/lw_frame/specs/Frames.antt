-- The messages of a stream of bytes. Language Server Protocol 3.17, Base Protocol: a message is a header part and then a content part of as
-- many bytes as its `Content-Length` says. The content part is the body.
use Rattle.std.specs.Prelude.{ℕ, zero, suc, ◌+◌, ◌-◌, List, [], ◌∷◌, ◌++◌, length, take, drop, nat_le, Bool, ◌&&◌, not, if◌then◌else◌, Option, Some, None, codes, decimal}
use Rattle.lw_frame.specs.Lines.{is_empty, line_end}
use Rattle.lw_frame.specs.Header.{Header, unfinished, faulty, whole, header_of}
use Rattle.lw_frame.specs.declared.fault.FrameFault.{FrameFault}
use Rattle.lw_frame.specs.declared.fault.FrameFault.TheVariants.{Truncated}
use Rattle.lw_frame.specs.declared.whole.Frames.{Frames}

-- the first n bytes and the others, where there are so many
abbrev pub first_bytes : ℕ → List ℕ → Option (List ℕ × List ℕ)
first_bytes n bytes = if nat_le n (length bytes) then Some (take n bytes, drop n bytes) else None

abbrev pub message_parts : Header → List ℕ → Option (List ℕ × List ℕ)
message_parts unfinished bytes = None
message_parts (faulty fault) bytes = None
message_parts (whole size body) bytes = first_bytes body (drop size bytes)

-- the body of the message at the head of the bytes, and the bytes behind the message, where it is all there
abbrev pub message : ℕ → List ℕ → Option (List ℕ × List ℕ)
message start bytes = message_parts (header_of start bytes) bytes

-- A stream as its messages, and the rest behind the last of them, which begins at offset `start`.
pub record Split : Type 0 where
  pub bodies : List (List ℕ)
  pub start : ℕ
  pub rest : List ℕ

-- the split with one more message before it
abbrev pub with_body : List ℕ → Split → Split
with_body body s = record s { bodies = body ∷ s.bodies }

abbrev pub split_behind : ℕ → List ℕ → Option (List ℕ × List ℕ) → (ℕ → List ℕ → Split) → Split
split_behind start bytes None others = record { bodies = []; start = start; rest = bytes }
split_behind start bytes (Some found) others = with_body found.0 (others (start + (length bytes - length found.1)) found.1)

-- the split of the bytes from offset `start` on into at most so many messages
abbrev pub split_within : ℕ → ℕ → List ℕ → Split
split_within zero start bytes = record { bodies = []; start = start; rest = bytes }
split_within (suc most) start bytes = split_behind start bytes (message start bytes) (split_within most)

-- no message is without bytes, so there are at most as many as bytes
abbrev pub split : ℕ → List ℕ → Split
split start bytes = split_within (length bytes) start bytes

-- the fault of a rest, which is no whole message
abbrev pub rest_fault : Header → List ℕ → Bool → Option FrameFault
rest_fault (faulty fault) rest closed = Some fault
rest_fault unfinished rest closed = if closed && not (is_empty rest) then Some (Truncated 0) else None
rest_fault (whole size body) rest closed = if closed then Some (Truncated (body - length (drop size rest))) else None

-- the bodies of the stream, in order
abbrev pub bodies_of : List ℕ → List (List ℕ)
bodies_of bytes = (split 0 bytes).bodies

-- why no further body comes, however the stream goes on; `closed` says that it does not go on
abbrev pub fault_of : List ℕ → Bool → Option FrameFault
fault_of bytes closed = let s = split 0 bytes in rest_fault (header_of s.start s.rest) s.rest closed

-- what a stream gives
abbrev pub frames : List ℕ → Bool → Frames
frames bytes closed = record { bodies = bodies_of bytes; fault = fault_of bytes closed }

-- the bytes behind the last message
abbrev pub rest_of : List ℕ → List ℕ
rest_of bytes = (split 0 bytes).rest

-- the header part of a message whose body has so many bytes, as it is written
abbrev pub header_part_of : ℕ → List ℕ
header_part_of size = codes "Content-Length: " ++ decimal size ++ line_end ++ line_end

-- a message with this body, as it is written
abbrev pub frame_of : List ℕ → List ℕ
frame_of body = header_part_of (length body) ++ body
