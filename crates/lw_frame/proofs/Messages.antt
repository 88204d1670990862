-- What a message of a known stage is to the stream.
use Rattle.std.proofs.Common.{◌≡◌, ◌∙◌, ◌<◌, ◌+◌, ℕ, List, ◌++◌, length, drop, Bool, true, false, not, ◌&&◌, if◌then◌else◌, Option, Some, None, refl, ap, arith, append_assoc, append-nil, length-append, nat_le, IsTrue}
use Rattle.std.proofs.Math.Seq.{drop-append_seam, take-append_seam}
use Rattle.std.proofs.lemmas.Bool.{le-leb}
use Rattle.std.proofs.lemmas.Bool.Decides.{nat_tests}
use Rattle.lw_frame.specs.Lines.{is_empty}
use Rattle.lw_frame.specs.Header.{unfinished, faulty, whole, header_of}
use Rattle.lw_frame.specs.Frames.{first_bytes, message_parts, message, rest_fault}
use Rattle.lw_frame.specs.Stage.{IsAt, HeaderSays}
use Rattle.lw_frame.specs.Reading.{is_waiting}
use Rattle.lw_frame.proofs.Headers.{header_unfinished}
use Rattle.lw_frame.specs.declared.fault.FrameFault.{FrameFault}
use Rattle.lw_frame.specs.declared.fault.FrameFault.TheVariants.{Truncated}
use Rattle.lw_frame.specs.declared.stage.Stage.{Stage}
use Rattle.lw_frame.specs.declared.stage.Stage.TheVariants as stage

not_so_many : (n : ℕ) (bytes : List ℕ) → length bytes < n → first_bytes n bytes ≡ None
not_so_many n bytes h = let test : nat_le n (length bytes) ≡ false = grind (arith, nat_tests) in rw test refl

-- a message that is all there
pub message_whole : (start : ℕ) (header body more : List ℕ) → HeaderSays start header (whole (length header) (length body)) → message start ((header ++ body) ++ more) ≡ Some (body, more)
message_whole start header body more says =
    let bytes : List ℕ = header ++ (body ++ more) in
    let said : header_of start bytes ≡ whole (length header) (length body) = says (body ++ more) in
    let test : nat_le (length body) (length (body ++ more)) ≡ true = le-leb _ _ (omega (arith, length-append body more)) in
    let found : first_bytes (length body) (body ++ more) ≡ Some (body, more) = rw (test, take-append_seam body more, drop-append_seam body more) refl in
    ap (message start) (append_assoc header body more) ∙ ap (λ h. message_parts h bytes) said ∙ ap (first_bytes (length body)) (drop-append_seam header (body ++ more)) ∙ found

-- a message that is faulty
pub message_faulty : (start : ℕ) (header more : List ℕ) (fault : FrameFault) → HeaderSays start header (faulty fault) → message start (header ++ more) ≡ None
message_faulty start header more fault says = ap (λ h. message_parts h (header ++ more)) (says more)

pub header_open : (start : ℕ) (header body : List ℕ) (line : ℕ) (given : Option ℕ) → IsAt (stage.Header line given) start header body → header_of start (header ++ body) ≡ unfinished
header_open start header body line given (none, is, uncut, short) =
    ap (λ bs. header_of start (header ++ bs)) none ∙ ap (header_of start) (append-nil header) ∙ header_unfinished start header is.before given (drop line header) is.good is.bytes uncut short

pub header_closed : (start : ℕ) (header body : List ℕ) (missing : ℕ) → IsAt (stage.Content missing) start header body → header_of start (header ++ body) ≡ whole (length header) (length body + missing)
header_closed start header body missing (says, some) = says body

-- a message that waits is not all there
pub message_waiting : (s : Stage) (start : ℕ) (header body : List ℕ) → IsAt s start header body → IsTrue (is_waiting s) → message start (header ++ body) ≡ None
message_waiting (stage.Header line given) start header body at waits = ap (λ h. message_parts h (header ++ body)) (header_open start header body line given at)
message_waiting (stage.Content missing) start header body at waits =
    ap (λ h. message_parts h (header ++ body)) (header_closed start header body missing at) ∙ ap (first_bytes (length body + missing)) (drop-append_seam header body) ∙ not_so_many (length body + missing) body (let some = at.1 in omega arith)
message_waiting stage.Whole start header body at waits = cc
message_waiting (stage.Failed fault) start header body at waits = cc

-- and no fault while the stream goes on
pub fault_waiting : (s : Stage) (start : ℕ) (header body : List ℕ) → IsAt s start header body → IsTrue (is_waiting s) → rest_fault (header_of start (header ++ body)) (header ++ body) false ≡ None
fault_waiting (stage.Header line given) start header body at waits = ap (λ h. rest_fault h (header ++ body) false) (header_open start header body line given at)
fault_waiting (stage.Content missing) start header body at waits = ap (λ h. rest_fault h (header ++ body) false) (header_closed start header body missing at)
fault_waiting stage.Whole start header body at waits = cc
fault_waiting (stage.Failed fault) start header body at waits = cc

-- the fault where the stream ends inside a header part
pub truncated_header : (start : ℕ) (header body : List ℕ) (line : ℕ) (given : Option ℕ) → IsAt (stage.Header line given) start header body
    → rest_fault (header_of start (header ++ body)) (header ++ body) true ≡ (if is_empty header then None else Some (Truncated 0))
truncated_header start header body line given at =
    ap (λ h. rest_fault h (header ++ body) true) (header_open start header body line given at) ∙ ap (λ bs. rest_fault unfinished (header ++ bs) true) at.0 ∙ ap (λ bs. rest_fault unfinished bs true) (append-nil header) ∙ negated (is_empty header)
  where
    negated : (b : Bool) → (if true && not b then Some (Truncated 0) else None) ≡ (if b then None else Some (Truncated 0))
    negated true = refl
    negated false = refl
