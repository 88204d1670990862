-- What a stream comes to.
use Rattle.std.proofs.Common.{◌≡◌, ◌∙◌, ◌≤◌, ◌+◌, ℕ, List, [], ◌∷◌, ◌++◌, length, drop, Bool, Option, Some, None, refl, sym, ap, arith, subst, append_assoc, append-nil, length-append, true, false, ◌⊎◌, inl, inr, is_some, IfNone, slice_get, zero, suc, Result}
use Rattle.std.proofs.lemmas.List.{drop-append-le}
use Rattle.std.specs.List.{concat}
use Rattle.lw_frame.specs.Header.{faulty, header_of}
use Rattle.lw_frame.specs.Frames.{Split, split, message, rest_fault, bodies_of, fault_of, rest_of}
use Rattle.lw_frame.specs.Stream.{Stream, unfinished, needed, next_body, next_answer, answer_next, AnswersStream}
use Rattle.lw_frame.specs.Stage.{IsAt, HeaderSays}
use Rattle.lw_frame.specs.Kept.{IsKept}
use Rattle.lw_frame.specs.Reading.{bytes_of, Feeds, ReadsMessages, ReadsTo, WaitsFor, EndsIn, Continues, with_bodies, failure}
use Rattle.lw_frame.proofs.Messages.{message_waiting, message_faulty, fault_waiting}
use Rattle.lw_frame.proofs.Splits.{split_none}
use Rattle.lw_frame.proofs.Readings.{continues_on}
use Rattle.lw_frame.specs.declared.fault.FrameFault.{FrameFault}
use Rattle.lw_frame.specs.declared.incoming.Incoming.{Incoming}
use Rattle.lw_frame.specs.declared.reader.FrameReader.TheInside.{Inside}
use Rattle.lw_frame.specs.declared.stage.Stage.{Stage}
use Rattle.lw_frame.specs.declared.stage.Stage.TheVariants as stage

-- the split of what waits
pub split_waits : (start : ℕ) (bytes : List ℕ) (bodies : List (List ℕ)) (m : Incoming) → WaitsFor start bytes bodies m → split start bytes ≡ record { bodies = bodies; start = m.start; rest = bytes_of m }
split_waits start bytes bodies m w =
    let none : message m.start (bytes_of m) ≡ None = message_waiting m.stage m.start m.header.items m.body.items w.read w.waiting in
    ap (split start) (sym (append-nil bytes)) ∙ w.goes_on [] ∙ ap (λ bs. with_bodies bodies (split m.start bs)) (append-nil (bytes_of m)) ∙ ap (with_bodies bodies) (split_none m.start (bytes_of m) none)
    ∙ ap (λ bs. record { bodies = bs; start = m.start; rest = bytes_of m }) (append-nil bodies)

-- the bodies so far
pub bodies_to : (fault : Option FrameFault) (start : ℕ) (bytes : List ℕ) (bodies : List (List ℕ)) (m : Incoming) → ReadsTo fault start bytes bodies m → (split start bytes).bodies ≡ bodies
bodies_to None start bytes bodies m w = ap (λ (s : Split). s.bodies) (split_waits start bytes bodies m w)
bodies_to (Some fault) start bytes bodies m e = ap (λ bs. (split start bs).bodies) (sym (append-nil bytes)) ∙ e.bodies_are []

-- the fault so far
pub fault_to : (fault : Option FrameFault) (bytes : List ℕ) (bodies : List (List ℕ)) (m : Incoming) → ReadsTo fault 0 bytes bodies m → fault_of bytes false ≡ fault
fault_to None bytes bodies m w =
    ap (λ (s : Split). rest_fault (header_of s.start s.rest) s.rest false) (split_waits 0 bytes bodies m w) ∙ fault_waiting m.stage m.start m.header.items m.body.items w.read w.waiting
fault_to (Some fault) bytes bodies m e = ap (λ bs. fault_of bs false) (sym (append-nil bytes)) ∙ ap (λ h. rest_fault h (split 0 (bytes ++ [])).rest false) (e.fault_is [])

-- a fault stays
pub fault_for_good : (fault : FrameFault) (bytes more : List ℕ) (bodies : List (List ℕ)) (m : Incoming) (closed : Bool) → EndsIn fault 0 bytes bodies m → fault_of (bytes ++ more) closed ≡ Some fault
fault_for_good fault bytes more bodies m closed e = ap (λ h. rest_fault h (split 0 (bytes ++ more)).rest closed) (e.fault_is more)

pub ends_on : (fault : FrameFault) (start : ℕ) (bytes piece : List ℕ) (bodies : List (List ℕ)) (m : Incoming) → EndsIn fault start bytes bodies m → EndsIn fault start (bytes ++ piece) bodies m
ends_on fault start bytes piece bodies m e = record {
  bodies_are = λ more. ap (λ bs. (split start bs).bodies) (append_assoc bytes piece more) ∙ e.bodies_are (piece ++ more);
  fault_is = λ more. ap (λ bs. header_of (split start bs).start (split start bs).rest) (append_assoc bytes piece more) ∙ e.fault_is (piece ++ more);
  empty = e.empty;
}

continues_piece : (start at : ℕ) (bytes rest piece : List ℕ) (bodies : List (List ℕ)) → Continues start bytes bodies at rest → Continues start (bytes ++ piece) bodies at (rest ++ piece)
continues_piece start at bytes rest piece bodies goes more = ap (split start) (append_assoc bytes piece more) ∙ goes (piece ++ more) ∙ ap (λ bs. with_bodies bodies (split at bs)) (sym (append_assoc rest piece more))

-- a piece more
pub waits_on : (fault : Option FrameFault) (start : ℕ) (bytes piece : List ℕ) (bodies more_bodies : List (List ℕ)) (old new : Incoming) → WaitsFor start bytes bodies old → ReadsTo fault old.start (bytes_of old ++ piece) more_bodies new
    → ReadsTo fault start (bytes ++ piece) (bodies ++ more_bodies) new
waits_on None start bytes piece bodies more_bodies old new w next = record {
  goes_on = continues_on start old.start new.start (bytes ++ piece) (bytes_of old ++ piece) (bytes_of new) bodies more_bodies (continues_piece start old.start bytes (bytes_of old) piece bodies w.goes_on) next.goes_on;
  read = next.read;
  waiting = next.waiting;
  end = omega (arith, w.end, next.end, length-append bytes piece, length-append (bytes_of old) piece);
}
waits_on (Some fault) start bytes piece bodies more_bodies old new w next =
    let goes = continues_piece start old.start bytes (bytes_of old) piece bodies w.goes_on in
    record {
      bodies_are = λ more. ap (λ (s : Split). s.bodies) (goes more) ∙ ap (λ bs. bodies ++ bs) (next.bodies_are more);
      fault_is = λ more. ap (λ (s : Split). header_of s.start s.rest) (goes more) ∙ next.fault_is more;
      empty = next.empty;
    }

at_failed : (s : Stage) (fault : FrameFault) (start : ℕ) (header body : List ℕ) → IsAt s start header body → failure s ≡ Some fault → (body ≡ []) × HeaderSays start header (faulty fault)
at_failed (stage.Header line given) fault start header body at h = cc
at_failed (stage.Content missing) fault start header body at h = cc
at_failed stage.Whole fault start header body at h = cc
at_failed (stage.Failed other) fault start header body at h = let same : other ≡ fault = cc in (at.0, subst (λ f. HeaderSays start header (faulty f)) same at.1)

-- where a piece ends a stream in a fault
pub reads_faulty : (start : ℕ) (bytes : List ℕ) (bodies : List (List ℕ)) (m empty_one : Incoming) (fault : FrameFault) → ReadsMessages start bytes bodies m → failure m.stage ≡ Some fault → bytes_of empty_one ≡ [] → EndsIn fault start bytes bodies empty_one
reads_faulty start bytes bodies m empty_one fault r h none =
    let failed = at_failed m.stage fault m.start m.header.items m.body.items r.read h in
    let rest : List ℕ → List ℕ = λ more. r.dropped ++ more in
    let bytes_are : (more : List ℕ) → (bytes_of m ++ r.dropped) ++ more ≡ m.header.items ++ rest more =
    λ more. append_assoc (bytes_of m) r.dropped more ∙ ap (λ bs. (m.header.items ++ bs) ++ rest more) failed.0 ∙ ap (λ bs. bs ++ rest more) (append-nil m.header.items) in
    let is : (more : List ℕ) → split start (bytes ++ more) ≡ with_bodies bodies (record { bodies = []; start = m.start; rest = m.header.items ++ rest more }) =
    λ more. r.goes_on more ∙ ap (λ bs. with_bodies bodies (split m.start bs)) (bytes_are more)
    ∙ ap (with_bodies bodies) (split_none m.start (m.header.items ++ rest more) (message_faulty m.start m.header.items (rest more) fault failed.1)) in
    record {
      bodies_are = λ more. ap (λ (s : Split). s.bodies) (is more) ∙ append-nil bodies;
      fault_is = λ more. ap (λ (s : Split). header_of s.start s.rest) (is more) ∙ failed.1 (rest more);
      empty = none;
    }

-- the fault of a stream that has one, or goes on
pub fault_known : (fault : Option FrameFault) (bytes : List ℕ) (bodies : List (List ℕ)) (m : Incoming) (closed : Bool) → ReadsTo fault 0 bytes bodies m → (is_some fault ≡ true) ⊎ ((is_some fault ≡ false) × (closed ≡ false)) → fault ≡ fault_of bytes closed
fault_known None bytes bodies m closed w (inl h) = cc
fault_known None bytes bodies m closed w (inr h) = sym (ap (fault_of bytes) h.1 ∙ fault_to None bytes bodies m w)
fault_known (Some fault) bytes bodies m closed e h = sym (ap (λ bs. fault_of bs closed) (sym (append-nil bytes)) ∙ fault_for_good fault bytes [] bodies m closed e)

-- and of one that ends where the message waits
pub fault_truncated : (fault : Option FrameFault) (bytes : List ℕ) (bodies : List (List ℕ)) (m : Incoming) (closed : Bool) → ReadsTo fault 0 bytes bodies m → is_some fault ≡ false → closed ≡ true
    → rest_fault (header_of m.start (bytes_of m)) (bytes_of m) true ≡ fault_of bytes closed
fault_truncated None bytes bodies m closed w h k = sym (ap (fault_of bytes) k ∙ ap (λ (s : Split). rest_fault (header_of s.start s.rest) s.rest true) (split_waits 0 bytes bodies m w))
fault_truncated (Some fault) bytes bodies m closed e h k = cc

unfinished_is : (fault : Option FrameFault) (bytes : List ℕ) (bodies : List (List ℕ)) (m : Incoming) → ReadsTo fault 0 bytes bodies m → unfinished (fault_of bytes false) (rest_of bytes) ≡ bytes_of m
unfinished_is None bytes bodies m w = ap (λ f. unfinished f (rest_of bytes)) (fault_to None bytes bodies m w) ∙ ap (λ (s : Split). s.rest) (split_waits 0 bytes bodies m w)
unfinished_is (Some fault) bytes bodies m e = ap (λ f. unfinished f (rest_of bytes)) (fault_to (Some fault) bytes bodies m e) ∙ sym e.empty

-- what a reader holds is needed
pub held_is_needed : (finished : List (List ℕ)) (m : Incoming) (fault : Option FrameFault) (fed : List ℕ) (given : ℕ) (closed : Bool) → finished ≡ drop given (bodies_of fed) → ReadsTo fault 0 fed (bodies_of fed) m
    → concat finished ++ bytes_of m ≡ needed (record { fed = fed; closed = closed; given = given })
held_is_needed finished m fault fed given closed e r =
    ap (λ bs. concat bs ++ bytes_of m) e ∙ ap (λ bs. concat (drop given (bodies_of fed)) ++ bs) (sym (unfinished_is fault fed (bodies_of fed) m r))

get_at : (xs : List (List ℕ)) (n : ℕ) → slice_get xs n ≡ slice_get (drop n xs) 0
get_at [] zero = refl
get_at [] (suc n) = refl
get_at (x ∷ xs) zero = refl
get_at (x ∷ xs) (suc n) = get_at xs n

-- nothing is there to hand out
pub no_body : (s : Stream) → drop s.given (bodies_of s.fed) ≡ [] → next_body s ≡ None
no_body s h = get_at (bodies_of s.fed) s.given ∙ ap (λ bs. slice_get bs 0) h

-- a piece behind a stream that waits
pub bodies_more : (fault : Option FrameFault) (bytes piece : List ℕ) (more_bodies : List (List ℕ)) (old new : Incoming) → WaitsFor 0 bytes (bodies_of bytes) old → ReadsTo fault old.start (bytes_of old ++ piece) more_bodies new
    → (bodies_of (bytes ++ piece) ≡ bodies_of bytes ++ more_bodies) × ReadsTo fault 0 (bytes ++ piece) (bodies_of (bytes ++ piece)) new
bodies_more fault bytes piece more_bodies old new w next =
    let all = waits_on fault 0 bytes piece (bodies_of bytes) more_bodies old new w next in
    let is : bodies_of (bytes ++ piece) ≡ bodies_of bytes ++ more_bodies = bodies_to fault 0 (bytes ++ piece) (bodies_of bytes ++ more_bodies) new all in
    (is, subst (λ bs. ReadsTo fault 0 (bytes ++ piece) bs new) (sym is) all)

-- and behind one that ended in a fault
pub bodies_same : (fault : FrameFault) (bytes piece : List ℕ) (m : Incoming) → EndsIn fault 0 bytes (bodies_of bytes) m → (bodies_of (bytes ++ piece) ≡ bodies_of bytes) × EndsIn fault 0 (bytes ++ piece) (bodies_of (bytes ++ piece)) m
bodies_same fault bytes piece m e =
    let all = ends_on fault 0 bytes piece (bodies_of bytes) m e in
    let is : bodies_of (bytes ++ piece) ≡ bodies_of bytes = e.bodies_are piece in
    (is, subst (λ bs. EndsIn fault 0 (bytes ++ piece) bs m) (sym is) all)

-- a piece, behind a stream that waits or that ended in a fault
pub feeds : (known now : Option FrameFault) (fed piece : List ℕ) (bodies : List (List ℕ)) (old new : Incoming) → known ≡ None → ReadsTo now old.start (bytes_of old ++ piece) bodies new → ReadsTo known 0 fed (bodies_of fed) old
    → (bodies_of (fed ++ piece) ≡ bodies_of fed ++ bodies) × ReadsTo now 0 (fed ++ piece) (bodies_of (fed ++ piece)) new
feeds None now fed piece bodies old new none next w = bodies_more now fed piece bodies old new w next
feeds (Some fault) now fed piece bodies old new none next e = cc

pub feeds_nothing : (known : Option FrameFault) (fed piece : List ℕ) (m : Incoming) → is_some known ≡ true → ReadsTo known 0 fed (bodies_of fed) m
    → (bodies_of (fed ++ piece) ≡ bodies_of fed ++ []) × ReadsTo known 0 (fed ++ piece) (bodies_of (fed ++ piece)) m
feeds_nothing None fed piece m some w = cc
feeds_nothing (Some fault) fed piece m some e = let same = bodies_same fault fed piece m e in (same.0 ∙ sym (append-nil (bodies_of fed)), same.1)

-- what is there to hand out, once a piece has finished further bodies
pub left_more : (a : Inside) (piece : List ℕ) (now : Option FrameFault) (finished bodies : List (List ℕ)) (new : Incoming) → IsKept a → Feeds piece a.fault now a.incoming new bodies → finished ≡ a.finished.items ++ bodies
    → (finished ≡ drop a.history.given (bodies_of (a.history.fed ++ piece))) × (a.history.given ≤ length (bodies_of (a.history.fed ++ piece)))
left_more a piece now finished bodies new kept feeds is =
    let was = bodies_of a.history.fed in
    let now_are : bodies_of (a.history.fed ++ piece) ≡ was ++ bodies = feeds.bodies_are a.history.fed kept.rest in
    (is ∙ ap (λ bs. bs ++ bodies) kept.finished ∙ sym (drop-append-le a.history.given was bodies kept.given) ∙ ap (drop a.history.given) (sym now_are), omega (arith, ap length now_are, length-append was bodies, kept.given))

-- a stream is read to an offset within it
pub read_within : (fault : Option FrameFault) (bytes : List ℕ) (bodies : List (List ℕ)) (m : Incoming) → ReadsTo fault 0 bytes bodies m → IfNone fault (m.start + length (bytes_of m) ≤ length bytes)
read_within None bytes bodies m w = let e = w.end in omega arith
read_within (Some fault) bytes bodies m e = tt

by_case : (o : Option (List ℕ)) (f : Option FrameFault) (s : Stream) → next_body s ≡ o → fault_of s.fed s.closed ≡ f → AnswersStream s (answer_next o f)
by_case (Some body) f s h k = h
by_case None (Some fault) s h k = (h, k)
by_case None None s h k = (h, k)

-- an answer, by its case
pub answers_by_case : (s : Stream) (r : Result (Option (List ℕ)) FrameFault) → r ≡ next_answer s → AnswersStream s r
answers_by_case s r h = subst (AnswersStream s) (sym h) (by_case (next_body s) (fault_of s.fed s.closed) s refl refl)
