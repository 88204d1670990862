-- A message as it is written.
use Rattle.std.proofs.Common.{◌≡◌, ◌∙◌, ◌<◌, ◌≤◌, ◌+◌, ◌-◌, ◌^◌, ℕ, List, [], ◌∷◌, ◌++◌, length, take, drop, codes, decimal, Bool, true, false, if◌then◌else◌, Option, Some, None, refl, sym, ap, arith, append-nil, length-append, nat_le, zero, suc}
use Rattle.std.proofs.lemmas.Bool.Decides.{nat_tests}
use Rattle.std.proofs.lemmas.Fmt.{decimal_nonempty, length-decimal-le, digits_decimal, digits_value-decimal, decimal_is_IsNumeral}
use Rattle.std.proofs.lemmas.Str.Parse.{digit_at, digit_from_value, tells_all_ascii_digits, numerals_by_value, IsNumeralModel}
use Rattle.std.specs.List.{list_any, prefix_len, suffix_len}
use Rattle.std.specs.Str.{all_ascii_digits}
use Rattle.std.specs.Str.Parse.{digits_value, AllDigits}
use Rattle.std.specs.Int.{IsInRange}
use Rattle.std.proofs.Math.Seq.{take-length}
use Rattle.std.proofs.lemmas.List.{take_all}
use Rattle.std.proofs.lemmas.List.Sums.{prefix_len-drop_no, suffix_len-take_no}
use Rattle.std.proofs.lemmas.Bool.{le-leb, le-ltb}
use Rattle.lw_frame.specs.Lines.{line_end, joined}
use Rattle.lw_frame.specs.Header.{number, is_blank, without_blanks_before, without_blanks_after, unfinished, faulty, whole, ended, header_of, judged, good_so_far, before_bad, fields, has_end, length_of}
use Rattle.lw_frame.specs.Field.{field_of, field_with}
use Rattle.lw_frame.specs.Stage.{AreGood, HeaderSays, is_open}
use Rattle.lw_frame.specs.declared.fault.FrameFault.TheVariants.{TooLong, BadHeader}
use Rattle.lw_frame.specs.Reading.{is_newline}
use Rattle.std.proofs.Math.Dec.{eqb-suc-zero}
use Rattle.lw_frame.specs.Frames.{message, message_parts, Split, split_within, split_behind, bodies_of, fault_of, rest_fault, header_part_of, frame_of}
use Rattle.lw_frame.proofs.Messages.{message_whole}
use Rattle.lw_frame.proofs.Splits.{split_message}
use Rattle.lw_frame.proofs.Cuts.{is_open-append}
use Rattle.lw_frame.proofs.Headers.{says_ended}
use Rattle.lw_frame.proofs.Stages.{good-length}
use Rattle.lw_frame.specs.declared.field.Field.TheVariants.{Length}
use Rattle.lw_frame.specs.declared.limits.TheConstants.{LONGEST_HEADER_PART, LONGEST_BODY}

own : IsNumeralModel (λ ds. all_ascii_digits ds ≡ true) (digits_value 10)
own = numerals_by_value _ tells_all_ascii_digits

-- the field that gives the length n
abbrev field_line : ℕ → List ℕ
field_line n = codes "Content-Length: " ++ decimal n

not_blank : (c : ℕ) → IsInRange 48 57 c → is_blank c ≡ false
not_blank c h = grind (arith, nat_tests)

not_newline : (c : ℕ) → IsInRange 48 57 c → is_newline c ≡ false
not_newline c h = grind (arith, nat_tests)

none_in : (ds : List ℕ) → AllDigits 10 ds → list_any is_newline ds ≡ false
none_in [] h = refl
none_in (d ∷ ds) h = let here = not_newline d (digit_from_value d h.0) in let rest = none_in ds h.1 in rw here rest

-- digits have no blanks around them
digits_bare : (ds : List ℕ) → 0 < length ds → AllDigits 10 ds → without_blanks_after (without_blanks_before (32 ∷ ds)) ≡ ds
digits_bare ds some all =
    let last_at : ℕ = length ds - 1 in
    let first : prefix_len is_blank ds ≡ 0 = prefix_len-drop_no is_blank ds 0 0 some (not_blank _ (digit_at ds 0 all some)) in
    let last : suffix_len is_blank ds ≡ 0 =
    ap (suffix_len is_blank) (sym (take-length ds)) ∙ suffix_len-take_no is_blank ds (length ds) 0 some (omega arith) (not_blank _ (digit_at ds last_at all (omega arith))) in
    let before : without_blanks_before (32 ∷ ds) ≡ ds = ap (λ n. drop (1 + n) (32 ∷ ds)) first in
    ap without_blanks_after before ∙ ap (λ n. take (length ds - n) ds) last ∙ take_all (length ds - 0) ds (omega arith)

number_is : (n : ℕ) → n ≤ LONGEST_BODY → number (decimal n) ≡ Some n
number_is n h =
    let small : n < 2 ^ 64 = omega arith in
    let some : nat_le 1 (length (decimal n)) ≡ true = le-leb _ _ (decimal_nonempty n small) in
    let few : nat_le (length (decimal n)) 10 ≡ true = le-leb _ _ (length-decimal-le 10 n (omega arith) (omega arith) small) in
    let digits : all_ascii_digits (decimal n) ≡ true = digits_decimal own n small in
    let is : digits_value 10 (decimal n) ≡ n = digits_value-decimal own n small in
    rw (some, few, digits, is) refl

-- the field gives the length
field_gives : (n : ℕ) → n ≤ LONGEST_BODY → field_of (field_line n) ≡ Length n
field_gives n h =
    let numeral = (decimal_is_IsNumeral n (omega arith)).0 in
    ap (λ t. field_with (number t)) (digits_bare (decimal n) numeral.0 numeral.1) ∙ ap field_with (number_is n h)

nothing_good : AreGood [] None
nothing_good = record { cut = refl; filled = refl; good = refl; gives = refl; named = refl }

field_open : (n : ℕ) → n ≤ LONGEST_BODY → is_open (field_line n) ≡ true
field_open n h = is_open-append (codes "Content-Length: ") (decimal n) refl (none_in (decimal n) (decimal_is_IsNumeral n (omega arith)).0.1)

header_says : (start n : ℕ) → n ≤ LONGEST_BODY → HeaderSays start (header_part_of n) (whole (length (header_part_of n)) n)
header_says start n h =
    let good : AreGood (field_line n ∷ []) (Some n) = good-length [] n (field_line n) nothing_good (field_open n h) (eqb-suc-zero _) (field_gives n h) in
    let bytes_are : header_part_of n ≡ joined (field_line n ∷ []) ++ line_end = ap (λ bs. bs ++ line_end) (sym (append-nil (field_line n ++ line_end))) in
    let digits = length-decimal-le 10 n (omega arith) (omega arith) (omega arith) in
    let size : length (header_part_of n) ≤ LONGEST_HEADER_PART =
    omega (arith, length-append (codes "Content-Length: ") (decimal n), length-append (field_line n) line_end, length-append (field_line n ++ line_end) line_end) in
    let fits : ended start (length (header_part_of n)) (Some n) ≡ whole (length (header_part_of n)) n = ap (λ b. if b then faulty (TooLong n) else whole (length (header_part_of n)) n) (le-ltb LONGEST_BODY n h) in
    λ more. says_ended start (header_part_of n) (field_line n ∷ []) (Some n) good bytes_are size more ∙ fits

-- where a message begins changes the place of its faults, and nothing else
message-start : (s t : ℕ) (bytes : List ℕ) → message s bytes ≡ message t bytes
message-start s t bytes = judged_alike (before_bad [] (fields bytes))
  where
    long_alike : (b : Bool) (size n : ℕ) → message_parts (if b then faulty (TooLong n) else whole size n) bytes ≡ message_parts (if b then faulty (TooLong n) else whole size n) bytes
    long_alike b size n = refl

    ended_alike : (size : ℕ) (given : Option ℕ) → message_parts (ended s size given) bytes ≡ message_parts (ended t size given) bytes
    ended_alike size None = refl
    ended_alike size (Some n) = refl

    good_alike : (b c : Bool) (size : ℕ) (given : Option ℕ) → message_parts (if b then ended s size given else if c then faulty (BadHeader s) else unfinished) bytes ≡ message_parts (if b then ended t size given else if c then faulty (BadHeader t) else unfinished) bytes
    good_alike true c size given = ended_alike size given
    good_alike false true size given = refl
    good_alike false false size given = refl

    judged_alike : (o : Option (List (List ℕ))) → message_parts (judged s o (good_so_far s bytes)) bytes ≡ message_parts (judged t o (good_so_far t bytes)) bytes
    judged_alike None = good_alike (has_end bytes) (nat_le LONGEST_HEADER_PART (length bytes)) (length (joined (fields bytes)) + 2) (length_of (fields bytes))
    judged_alike (Some before) = refl

-- the bodies are the same, wherever the bytes begin
bodies_within : (m s t : ℕ) (bytes : List ℕ) → (split_within m s bytes).bodies ≡ (split_within m t bytes).bodies
bodies_within zero s t bytes = refl
bodies_within (suc m) s t bytes =
    behind (message s bytes) (λ found at. bodies_within m (s + (length bytes - length found)) at found)
    ∙ ap (λ o. (split_behind t bytes o (split_within m)).bodies) (message-start s t bytes)
  where
    behind : (o : Option (List ℕ × List ℕ)) → ((found : List ℕ) (at : ℕ) → (split_within m (s + (length bytes - length found)) found).bodies ≡ (split_within m at found).bodies) → (split_behind s bytes o (split_within m)).bodies ≡ (split_behind t bytes o (split_within m)).bodies
    behind None same = refl
    behind (Some found) same = ap (λ bs. found.0 ∷ bs) (same found.1 (t + (length bytes - length found.1)))

-- a message that is written, and what follows it
pub bodies-frame : (body rest : List ℕ) → length body ≤ LONGEST_BODY → bodies_of (frame_of body ++ rest) ≡ body ∷ bodies_of rest
bodies-frame body rest h =
    let found : message 0 (frame_of body ++ rest) ≡ Some (body, rest) = message_whole 0 (header_part_of (length body)) body rest (header_says 0 (length body) h) in
    ap (λ (s : Split). s.bodies) (split_message 0 (frame_of body ++ rest) body rest found) ∙ ap (λ bs. body ∷ bs) (bodies_within (length rest) (0 + (length (frame_of body ++ rest) - length rest)) 0 rest)

-- alone it has no fault
pub fault-frame : (body : List ℕ) (closed : Bool) → length body ≤ LONGEST_BODY → fault_of (frame_of body) closed ≡ None
fault-frame body closed h =
    let found : message 0 (frame_of body) ≡ Some (body, []) = ap (message 0) (sym (append-nil (frame_of body))) ∙ message_whole 0 (header_part_of (length body)) body [] (header_says 0 (length body) h) in
    ap (λ (s : Split). rest_fault (header_of s.start s.rest) s.rest closed) (split_message 0 (frame_of body) body [] found) ∙ no_rest closed
  where
    no_rest : (closed : Bool) → rest_fault unfinished [] closed ≡ None
    no_rest true = refl
    no_rest false = refl
