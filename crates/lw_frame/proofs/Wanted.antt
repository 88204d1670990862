-- How far a message can be read on.
use Rattle.std.proofs.Common.{◌≡◌, ◌∙◌, ◌<◌, ◌≤◌, ◌+◌, ◌-◌, max, ◌⊎◌, inl, inr, ⊎_elim, ℕ, List, [], ◌∷◌, ◌++◌, length, take, drop, Bool, true, false, Option, Some, None, refl, sym, ap, arith, append-nil, length-append, length-drop, nat_le}
use Rattle.std.proofs.Math.ListN.{drop_of_length-le}
use Rattle.std.proofs.Math.Seq.{drop-append_seam}
use Rattle.std.specs.List.{concat}
use Rattle.lw_frame.specs.Header.{Header, unfinished, faulty, whole, header_of}
use Rattle.lw_frame.specs.Frames.{message_parts, Split, split, rest_fault, bodies_of, fault_of, rest_of}
use Rattle.lw_frame.specs.Stage.{IsAt}
use Rattle.lw_frame.specs.Stream.{Stream, with_piece, handed, needed, unfinished as rest_needed}
use Rattle.lw_frame.specs.Reading.{bytes_of, with_bodies, WaitsFor, EndsIn, EndsBehind, left_at, is_waiting}
use Rattle.lw_frame.specs.Wanted.{EndsWithin, StaysWithin, LeavesNothing, bytes_left, wanted_of, shortest_header, fewest_left}
use Rattle.lw_frame.proofs.Messages.{header_open, header_closed}
use Rattle.lw_frame.proofs.Ends.{current_is}
use Rattle.lw_frame.proofs.Splits.{first_if, split_none, split_message}
use Rattle.lw_frame.proofs.Streams.{split_waits}
use Rattle.lw_frame.proofs.Handing.{got_none, got_within}
use Rattle.lw_frame.specs.declared.fault.FrameFault.{FrameFault}
use Rattle.lw_frame.specs.declared.incoming.Incoming.{Incoming}
use Rattle.lw_frame.specs.declared.stage.Stage.{Stage}
use Rattle.lw_frame.specs.declared.stage.Stage.TheVariants as stage

-- a body with nothing behind it, or none
body_ends : (b : Bool) (m : ℕ) (rest : List ℕ) → length rest ≤ m → (first_if b m rest ≡ None) ⊎ ((body : List ℕ) × (first_if b m rest ≡ Some (body, [])))
body_ends true m rest h = inr (take m rest, ap (λ bs. Some (take m rest, bs)) (drop_of_length-le rest h))
body_ends false m rest h = inl refl

-- a message with nothing behind it, or none
content_ends : (h : Header) (bytes : List ℕ) → ((n m : ℕ) → h ≡ whole n m → length bytes ≤ n + m) → (message_parts h bytes ≡ None) ⊎ ((body : List ℕ) × (message_parts h bytes ≡ Some (body, [])))
content_ends unfinished bytes size = inl refl
content_ends (faulty fault) bytes size = inl refl
content_ends (whole n m) bytes size = body_ends (nat_le m (length (drop n bytes))) m (drop n bytes) (let long = size n m refl in omega (arith, length-drop n bytes))

-- no message, or one and nothing behind it
split_ends : (start : ℕ) (bytes : List ℕ) → ((n m : ℕ) → header_of start bytes ≡ whole n m → length bytes ≤ n + m)
    → ((split start bytes).bodies ≡ []) ⊎ ((body : List ℕ) × (at : ℕ) × (split start bytes ≡ record { bodies = body ∷ []; start = at; rest = [] }))
split_ends start bytes size =
    ⊎_elim (λ none. inl (ap (λ (s : Split). s.bodies) (split_none start bytes none))) (λ one. inr (one.0, start + (length bytes - 0), split_message start bytes one.0 [] one.1)) (content_ends (header_of start bytes) bytes size)

no_rest : (closed : Bool) → rest_fault unfinished [] closed ≡ None
no_rest true = refl
no_rest false = refl

-- behind bodies that are known
behind : (fed piece : List ℕ) (s : Split) → split 0 (fed ++ piece) ≡ with_bodies (bodies_of fed) s
    → (s.bodies ≡ []) ⊎ ((body : List ℕ) × (at : ℕ) × (s ≡ record { bodies = body ∷ []; start = at; rest = [] })) → EndsWithin fed piece
behind fed piece s is =
    ⊎_elim (λ none. inl (ap (λ (s : Split). s.bodies) is ∙ ap (λ bs. bodies_of fed ++ bs) none ∙ append-nil (bodies_of fed)))
    (λ one.
    let whole_is : split 0 (fed ++ piece) ≡ record { bodies = bodies_of fed ++ one.0 ∷ []; start = one.1; rest = [] } = is ∙ ap (with_bodies (bodies_of fed)) one.2 in
    inr (one.0, ap (λ (s : Split). s.bodies) whole_is, ap (λ (s : Split). s.rest) whole_is, λ closed. ap (λ (s : Split). rest_fault (header_of s.start s.rest) s.rest closed) whole_is ∙ no_rest closed))

-- a stream that waits for a message goes not past it
pub stays_within : (fed : List ℕ) (m : Incoming) (most : ℕ) → WaitsFor 0 fed (bodies_of fed) m → EndsBehind m.start (bytes_of m) most → StaysWithin fed most
stays_within fed m most w ends piece size = behind fed piece (split m.start (bytes_of m ++ piece)) (w.goes_on piece) (split_ends m.start (bytes_of m ++ piece) (ends piece size))

-- and one that has ended in a fault gets no further body
pub stays_faulty : (fault : FrameFault) (fed : List ℕ) (m : Incoming) (most : ℕ) → EndsIn fault 0 fed (bodies_of fed) m → StaysWithin fed most
stays_faulty fault fed m most e piece size = inl (e.bodies_are piece)

left_is : (s : Stage) (start : ℕ) (header body : List ℕ) → IsAt s start header body → is_waiting s ≡ true → left_at s header ≡ bytes_left (header_of start (header ++ body)) (header ++ body)
left_is (stage.Header line given) start header body at waits =
    ap (max (shortest_header - length header)) (ap fewest_left (sym (current_is header line given at.1 at.2)))
    ∙ ap (bytes_left unfinished) (sym (ap (λ bs. header ++ bs) at.0 ∙ append-nil header))
    ∙ ap (λ h. bytes_left h (header ++ body)) (sym (header_open start header body line given at))
left_is (stage.Content missing) start header body at waits =
    let left : length body + missing - length (drop (length header) (header ++ body)) ≡ missing = ap (λ bs. length body + missing - length bs) (drop-append_seam header body) ∙ omega arith in
    sym (ap (λ h. bytes_left h (header ++ body)) (header_closed start header body missing at) ∙ left)
left_is stage.Whole start header body at waits = cc
left_is (stage.Failed fault) start header body at waits = cc

-- the number, where the stream waits
pub wanted_waiting : (fed : List ℕ) (m : Incoming) → WaitsFor 0 fed (bodies_of fed) m → left_at m.stage m.header.items ≡ wanted_of fed
wanted_waiting fed m w =
    left_is m.stage m.start m.header.items m.body.items w.read w.waiting ∙ sym (ap (λ (s : Split). bytes_left (header_of s.start s.rest) s.rest) (split_waits 0 fed (bodies_of fed) m w))

-- and where it has ended in a fault
pub wanted_faulty : (fault : FrameFault) (fed : List ℕ) (m : Incoming) → EndsIn fault 0 fed (bodies_of fed) m → 1 ≡ wanted_of fed
wanted_faulty fault fed m e = sym (ap wanted_of (sym (append-nil fed)) ∙ ap (λ h. bytes_left h (split 0 (fed ++ [])).rest) (e.fault_is []))

no_more : (f : Option FrameFault) → rest_needed f [] ≡ []
no_more None = refl
no_more (Some fault) = refl

-- once the body is handed out that a piece brought, nothing is needed
pub leaves_nothing : (s : Stream) (most : ℕ) → StaysWithin s.fed most → LeavesNothing s most
leaves_nothing s most within piece body size none some =
    let all : length (bodies_of s.fed) ≤ s.given = got_none (bodies_of s.fed) s.given none in
    let left : s.given < length (bodies_of (s.fed ++ piece)) = got_within (bodies_of (s.fed ++ piece)) s.given body some in
    ap (λ o. needed (handed o (with_piece s piece))) some
    ∙ ⊎_elim (λ same. absurd (omega (arith, ap length same)))
    (λ one.
    let count : length (bodies_of (s.fed ++ piece)) ≤ s.given + 1 = omega (arith, ap length one.1, length-append (bodies_of s.fed) (one.0 ∷ [])) in
    ap (λ bs. concat bs ++ rest_needed (fault_of (s.fed ++ piece) false) (rest_of (s.fed ++ piece))) (drop_of_length-le (bodies_of (s.fed ++ piece)) count)
    ∙ ap (λ bs. rest_needed (fault_of (s.fed ++ piece) false) bs) one.2 ∙ no_more (fault_of (s.fed ++ piece) false))
    (within piece size)
