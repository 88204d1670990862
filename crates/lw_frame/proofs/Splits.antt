-- A stream cut into messages, however it goes on.
use Rattle.std.proofs.Common.{◌≡◌, ◌∙◌, ◌<◌, ◌≤◌, ◌+◌, ◌-◌, ℕ, zero, suc, List, [], ◌∷◌, length, take, drop, Bool, true, false, if◌then◌else◌, Option, Some, None, refl, ap, arith, length-drop, nat_le, nat_lt}
use Rattle.lw_frame.specs.Lines.{joined}
use Rattle.lw_frame.specs.Header.{Header, unfinished, faulty, whole, header_of, judged, good_so_far, ended, fields, has_end, before_bad, length_of}
use Rattle.lw_frame.specs.Frames.{message_parts, message, Split, with_body, split_behind, split_within, split}
use Rattle.lw_frame.specs.declared.fault.FrameFault.TheVariants.{BadHeader, TooLong}
use Rattle.lw_frame.specs.declared.limits.TheConstants.{LONGEST_HEADER_PART, LONGEST_BODY}

-- a message has bytes
whole_is : (start size : ℕ) (given : Option ℕ) (n m : ℕ) → ended start (size + 2) given ≡ whole n m → 0 < n
whole_is start size None n m h = cc
whole_is start size (Some body) n m h = long_is (nat_lt LONGEST_BODY body) h
  where
    long_is : (b : Bool) → (if b then faulty (TooLong body) else whole (size + 2) body) ≡ whole n m → 0 < n
    long_is true h = cc
    long_is false h = let e : size + 2 ≡ n = cc in omega arith

header_size : (start : ℕ) (bytes : List ℕ) (n m : ℕ) → header_of start bytes ≡ whole n m → 0 < n
header_size start bytes n m h = judged_is (before_bad [] (fields bytes)) h
  where
    good_is : (b c : Bool) → (if b then ended start (length (joined (fields bytes)) + 2) (length_of (fields bytes)) else if c then faulty (BadHeader start) else unfinished) ≡ whole n m → 0 < n
    good_is true c h = whole_is start (length (joined (fields bytes))) (length_of (fields bytes)) n m h
    good_is false true h = cc
    good_is false false h = cc

    judged_is : (o : Option (List (List ℕ))) → judged start o (good_so_far start bytes) ≡ whole n m → 0 < n
    judged_is None h = good_is (has_end bytes) (nat_le LONGEST_HEADER_PART (length bytes)) h
    judged_is (Some before) h = cc

-- the first n bytes and the others, if the test says that there are so many
abbrev pub first_if : Bool → ℕ → List ℕ → Option (List ℕ × List ℕ)
first_if test n bytes = if test then Some (take n bytes, drop n bytes) else None

first_bytes_are : (n : ℕ) (bytes : List ℕ) (found : List ℕ × List ℕ) (test : Bool) → first_if test n bytes ≡ Some found → found ≡ (take n bytes, drop n bytes)
first_bytes_are n bytes found true h = cc
first_bytes_are n bytes found false h = cc

content_shorter : (h : Header) (bytes : List ℕ) (found : List ℕ × List ℕ) → message_parts h bytes ≡ Some found → ((n m : ℕ) → h ≡ whole n m → 0 < n) → 0 < length bytes → length found.1 < length bytes
content_shorter unfinished bytes found e size some = cc
content_shorter (faulty fault) bytes found e size some = cc
content_shorter (whole n m) bytes found e size some =
    let is : found.1 ≡ drop m (drop n bytes) = ap (λ (f : List ℕ × List ℕ). f.1) (first_bytes_are m (drop n bytes) found (nat_le m (length (drop n bytes))) e) in
    let long : 0 < n = size n m refl in
    omega (arith, ap length is, length-drop m (drop n bytes), length-drop n bytes)

-- what stands behind a message is shorter
pub message_shorter : (start : ℕ) (bytes : List ℕ) (found : List ℕ × List ℕ) → message start bytes ≡ Some found → length found.1 < length bytes
message_shorter start [] found e = cc
message_shorter start (b ∷ bytes) found e = content_shorter (header_of start (b ∷ bytes)) (b ∷ bytes) found e (header_size start (b ∷ bytes)) (omega arith)

fuel_step : (start : ℕ) (bytes : List ℕ) (o : Option (List ℕ × List ℕ)) (f g : ℕ → List ℕ → Split) → ((found : List ℕ × List ℕ) (s : ℕ) → o ≡ Some found → f s found.1 ≡ g s found.1) → split_behind start bytes o f ≡ split_behind start bytes o g
fuel_step start bytes None f g same = refl
fuel_step start bytes (Some found) f g same = ap (with_body found.0) (same found (start + (length bytes - length found.1)) refl)

-- as many messages as bytes are enough
fuel : (m k start : ℕ) (bytes : List ℕ) → length bytes ≤ m → length bytes ≤ k → split_within m start bytes ≡ split_within k start bytes
fuel zero zero start bytes h i = refl
fuel zero (suc k) start [] h i = refl
fuel zero (suc k) start (b ∷ bytes) h i = absurd (omega arith)
fuel (suc m) zero start [] h i = refl
fuel (suc m) zero start (b ∷ bytes) h i = absurd (omega arith)
fuel (suc m) (suc k) start bytes h i =
    fuel_step start bytes (message start bytes) (split_within m) (split_within k)
    (λ found s e. fuel m k s found.1 (let short = message_shorter start bytes found e in omega arith) (let short = message_shorter start bytes found e in omega arith))

-- no message at the head
pub split_none : (start : ℕ) (bytes : List ℕ) → message start bytes ≡ None → split start bytes ≡ record { bodies = []; start = start; rest = bytes }
split_none start [] h = refl
split_none start (b ∷ bytes) h = ap (λ o. split_behind start (b ∷ bytes) o (split_within (length bytes))) h

-- a message at the head, and the others
pub split_message : (start : ℕ) (bytes body others : List ℕ) → message start bytes ≡ Some (body, others) → split start bytes ≡ with_body body (split (start + (length bytes - length others)) others)
split_message start [] body others h = cc
split_message start (b ∷ bytes) body others h =
    let short = message_shorter start (b ∷ bytes) (body, others) h in
    ap (λ o. split_behind start (b ∷ bytes) o (split_within (length bytes))) h
    ∙ ap (with_body body) (fuel (length bytes) (length others) (start + (length (b ∷ bytes) - length others)) others (omega arith) (omega arith))
