-- What stays of a stream as it goes on: a header part that was judged stays judged so, and so does a message that is all there.
use Rattle.std.proofs.Common.{◌≡◌, ◌∙◌, ◌<◌, ◌≤◌, ◌+◌, ◌-◌, ◌⊎◌, inl, inr, ⊎_elim, ℕ, zero, suc, List, [], ◌∷◌, ◌++◌, length, take, drop, nat_eq, nat_le, Bool, true, false, not, if◌then◌else◌, Option, Some, None, refl, sym, ap, arith, subst, append_assoc, append-nil, length-append, length-take}
use Rattle.std.proofs.Math.Dec.{eqb-suc-zero}
use Rattle.std.proofs.lemmas.List.{take_all, take-append-le, drop-append-le}
use Rattle.std.proofs.lemmas.List.Folds.{list_any-append}
use Rattle.std.proofs.lemmas.Bool.{cases_lt, le-leb, and_parts, and_from, not_from_false, or_left, lt-leb}
use Rattle.std.proofs.lemmas.Bool.Decides.{nat_tests}
use Rattle.std.specs.List.{starts_with, list_all, list_any, before_first}
use Rattle.lw_frame.specs.Lines.{line_end, lines, joined, is_empty}
use Rattle.lw_frame.specs.Header.{Header, unfinished, faulty, whole, header_of, near_lines, fields, has_end, before_bad, judged}
use Rattle.lw_frame.specs.Frames.{first_bytes, message_parts, message, Split, with_body, split, rest_fault}
use Rattle.lw_frame.specs.Stage.{is_open}
use Rattle.lw_frame.specs.Reading.{Continues, with_bodies}
use Rattle.lw_frame.specs.Growing.{KeepsBodies, KeepsFault}
use Rattle.lw_frame.proofs.Cuts.{open_one, lines-joined, lines-open}
use Rattle.lw_frame.proofs.Headers.{keeps_first, before_empty, near, header_by_lines, before_bad-stop}
use Rattle.lw_frame.proofs.Ends.{begins, any_behind, is_ended}
use Rattle.lw_frame.proofs.Splits.{first_if, message_shorter, split_none, split_message}
use Rattle.lw_frame.specs.declared.fault.FrameFault.{FrameFault}
use Rattle.lw_frame.specs.declared.fault.FrameFault.TheVariants.{BadHeader}
use Rattle.lw_frame.specs.declared.limits.TheConstants.{LONGEST_HEADER_PART}

-- LINES

-- bytes as their lines and what stands behind the last line end
record IsCut (bytes : List ℕ) (ls : List (List ℕ)) (tail : List ℕ) : Type 0 where
  is : bytes ≡ joined ls ++ tail
  cut : list_all is_open ls ≡ true
  uncut : is_open tail ≡ true

-- a line end more
cut_line : (b : ℕ) (bytes rest : List ℕ) (ls : List (List ℕ)) (tail : List ℕ) → b ≡ 13 → bytes ≡ 10 ∷ rest → IsCut bytes ls tail → (ms : List (List ℕ)) × (end : List ℕ) × IsCut (b ∷ bytes) ms end
cut_line b bytes rest [] [] first second c = let is = c.is in absurd cc
cut_line b bytes rest [] (d ∷ tail) first second c =
    let at : d ∷ tail ≡ 10 ∷ rest = sym c.is ∙ second in
    let same : tail ≡ rest = cc in (
      [] ∷ [],
      tail,
      record {
        is = ap (λ n. n ∷ bytes) first ∙ ap (λ bs. 13 ∷ bs) second ∙ ap (λ bs. 13 ∷ 10 ∷ bs) (sym same);
        cut = refl;
        uncut = (and_parts (not (starts_with nat_eq (d ∷ tail) line_end)) (is_open tail) c.uncut).1;
      },
    )
cut_line b bytes rest ([] ∷ ls) tail first second c =
    let at : 10 ∷ rest ≡ 13 ∷ 10 ∷ (joined ls ++ tail) = sym second ∙ c.is in
    absurd cc
cut_line b bytes rest ((d ∷ l) ∷ ls) tail first second c =
    let left : List ℕ = ((l ++ line_end) ++ joined ls) ++ tail in
    let at : 10 ∷ rest ≡ d ∷ left = sym second ∙ c.is in
    let same : rest ≡ left = cc in
    let tests = and_parts (is_open (d ∷ l)) (list_all is_open ls) c.cut in (
      [] ∷ l ∷ ls,
      tail,
      record {
        is = ap (λ n. n ∷ bytes) first ∙ ap (λ bs. 13 ∷ bs) second ∙ ap (λ bs. 13 ∷ 10 ∷ bs) same;
        cut = and_from _ _ (and_parts (not (starts_with nat_eq (d ∷ l) line_end)) (is_open l) tests.0).1 tests.1;
        uncut = c.uncut;
      },
    )

-- a byte more, with no line end
cut_byte : (b : ℕ) (bytes : List ℕ) (ls : List (List ℕ)) (tail : List ℕ) → starts_with nat_eq (b ∷ bytes) line_end ≡ false → IsCut bytes ls tail → (ms : List (List ℕ)) × (end : List ℕ) × IsCut (b ∷ bytes) ms end
cut_byte b bytes [] tail none c =
    let test : starts_with nat_eq (b ∷ tail) line_end ≡ false = ap (λ bs. starts_with nat_eq (b ∷ bs) line_end) (sym c.is) ∙ none in
    ([], b ∷ tail, record { is = ap (λ bs. b ∷ bs) c.is; cut = refl; uncut = and_from _ _ (not_from_false _ test) c.uncut })
cut_byte b bytes ([] ∷ ls) tail none c =
    ((b ∷ []) ∷ ls, tail, record { is = ap (λ bs. b ∷ bs) c.is; cut = and_from _ _ (and_from _ _ (open_one b) refl) c.cut; uncut = c.uncut })
cut_byte b bytes ((d ∷ l) ∷ ls) tail none c =
    let test : starts_with nat_eq (b ∷ d ∷ l) line_end ≡ false = ap (λ bs. starts_with nat_eq (b ∷ bs) line_end) (sym c.is) ∙ none in
    let tests = and_parts (is_open (d ∷ l)) (list_all is_open ls) c.cut in
    ((b ∷ d ∷ l) ∷ ls, tail, record { is = ap (λ bs. b ∷ bs) c.is; cut = and_from _ _ (and_from _ _ (not_from_false _ test) tests.0) tests.1; uncut = c.uncut })

cut_more : (test : Bool) (b : ℕ) (bytes : List ℕ) (ls : List (List ℕ)) (tail : List ℕ) → starts_with nat_eq (b ∷ bytes) line_end ≡ test → IsCut bytes ls tail → (ms : List (List ℕ)) × (end : List ℕ) × IsCut (b ∷ bytes) ms end
cut_more true b bytes ls tail t c = let at = begins b bytes t in cut_line b bytes at.1.0 ls tail at.0 at.1.1 c
cut_more false b bytes ls tail t c = cut_byte b bytes ls tail t c

-- all bytes can be cut
cut_all : (bytes : List ℕ) → (ls : List (List ℕ)) × (tail : List ℕ) × IsCut bytes ls tail
cut_all [] = ([], [], record { is = refl; cut = refl; uncut = refl })
cut_all (b ∷ bytes) = let c = cut_all bytes in cut_more (starts_with nat_eq (b ∷ bytes) line_end) b bytes c.0 c.1 refl c.2

lines_are : (bytes : List ℕ) (ls : List (List ℕ)) (tail : List ℕ) → IsCut bytes ls tail → lines bytes ≡ ls
lines_are bytes ls tail c = ap lines c.is ∙ lines-joined ls tail c.cut ∙ ap (λ qs. ls ++ qs) (lines-open tail c.uncut) ∙ append-nil ls

-- the lines stay
lines_stay : (bytes more : List ℕ) → (others : List (List ℕ)) × (lines (bytes ++ more) ≡ lines bytes ++ others)
lines_stay bytes more =
    let c = cut_all bytes in
    let all : lines (bytes ++ more) ≡ c.0 ++ lines (c.1 ++ more) = ap lines (ap (λ bs. bs ++ more) c.2.is ∙ append_assoc (joined c.0) c.1 more) ∙ lines-joined c.0 (c.1 ++ more) c.2.cut in
    (lines (c.1 ++ more), all ∙ ap (λ qs. qs ++ lines (c.1 ++ more)) (sym (lines_are bytes c.0 c.1 c.2)))

-- and so do those within the limit, behind which none come where the limit is reached
near_stay : (bytes more : List ℕ) → (others : List (List ℕ)) × (near_lines (bytes ++ more) ≡ near_lines bytes ++ others)
near_stay bytes more =
    ⊎_elim (λ (short : length bytes < LONGEST_HEADER_PART).
    let rest : List ℕ = take (LONGEST_HEADER_PART - length bytes) more in
    let here : near_lines bytes ≡ lines bytes = ap lines (take_all LONGEST_HEADER_PART bytes (omega arith)) in
    let stay = lines_stay bytes rest in
    (stay.0, ap lines (near bytes more (omega arith)) ∙ stay.1 ∙ ap (λ qs. qs ++ stay.0) (sym here)))
    (λ (long : LONGEST_HEADER_PART ≤ length bytes). ([], ap lines (take-append-le LONGEST_HEADER_PART bytes more long) ∙ sym (append-nil (near_lines bytes))))
    (cases_lt (length bytes) LONGEST_HEADER_PART)

-- HEADER PARTS

-- an empty line stays the first one
first_empty : (ls others : List (List ℕ)) → list_any is_empty ls ≡ true → before_first is_empty (ls ++ others) ≡ before_first is_empty ls
first_empty [] others h = cc
first_empty ([] ∷ ls) others h = refl
first_empty ((b ∷ l) ∷ ls) others h =
    let filled : is_empty (b ∷ l) ≡ false = eqb-suc-zero (length l) in
    let some = any_behind (is_empty (b ∷ l)) (list_any is_empty ls) filled h in
    keeps_first (b ∷ l) (ls ++ others) [] filled ∙ ap (λ qs. (b ∷ l) ∷ qs) (first_empty ls others some) ∙ sym (keeps_first (b ∷ l) ls [] filled)

-- a header part that has ended
stays_ended : (start : ℕ) (bytes more : List ℕ) → has_end bytes ≡ true → header_of start (bytes ++ more) ≡ header_of start bytes
stays_ended start bytes more end =
    let stay = near_stay bytes more in
    let same : fields (bytes ++ more) ≡ fields bytes = ap (before_first is_empty) stay.1 ∙ first_empty (near_lines bytes) stay.0 end in
    let still : has_end (bytes ++ more) ≡ true = ap (list_any is_empty) stay.1 ∙ list_any-append is_empty (near_lines bytes) stay.0 ∙ or_left _ _ end in
    header_by_lines start (bytes ++ more) (fields bytes) true same still ∙ sym (header_by_lines start bytes (fields bytes) true refl end)

-- the fields of one that has not
fields_are : (bytes : List ℕ) → has_end bytes ≡ false → fields bytes ≡ near_lines bytes
fields_are bytes end = ap (before_first is_empty) (sym (append-nil (near_lines bytes))) ∙ before_empty (near_lines bytes) [] end ∙ append-nil (near_lines bytes)

-- one with a line that is not good
stays_bad : (start : ℕ) (bytes more : List ℕ) (bad : List (List ℕ)) → has_end bytes ≡ false → before_bad [] (near_lines bytes) ≡ Some bad → header_of start (bytes ++ more) ≡ header_of start bytes
stays_bad start bytes more bad end h =
    let stay = near_stay bytes more in
    let others = before_first is_empty stay.0 in
    let later : fields (bytes ++ more) ≡ near_lines bytes ++ others = ap (before_first is_empty) stay.1 ∙ before_empty (near_lines bytes) stay.0 end in
    let still : before_bad [] (near_lines bytes ++ others) ≡ Some bad = before_bad-stop [] (near_lines bytes) others bad h in
    let said : Header = faulty (BadHeader (start + length (joined bad))) in
    let now : header_of start bytes ≡ said = header_by_lines start bytes (near_lines bytes) false (fields_are bytes end) end ∙ ap (λ o. judged start o (if nat_le LONGEST_HEADER_PART (length bytes) then faulty (BadHeader start) else unfinished)) h in
    let then_is : header_of start (bytes ++ more) ≡ said =
    header_by_lines start (bytes ++ more) (near_lines bytes ++ others) (has_end (bytes ++ more)) later refl ∙ rw still refl in
    then_is ∙ sym now

-- one at the limit
stays_long : (start : ℕ) (bytes more : List ℕ) → has_end bytes ≡ false → LONGEST_HEADER_PART ≤ length bytes → header_of start (bytes ++ more) ≡ header_of start bytes
stays_long start bytes more end long =
    let same : near_lines (bytes ++ more) ≡ near_lines bytes = ap lines (take-append-le LONGEST_HEADER_PART bytes more long) in
    let now : nat_le LONGEST_HEADER_PART (length bytes) ≡ true = le-leb _ _ long in
    let later : nat_le LONGEST_HEADER_PART (length (bytes ++ more)) ≡ true = le-leb _ _ (omega (arith, length-append bytes more)) in
    header_by_lines start (bytes ++ more) (fields bytes) false (ap (before_first is_empty) same) (ap (list_any is_empty) same ∙ end)
    ∙ ap (λ b. judged start (before_bad [] (fields bytes)) (if b then faulty (BadHeader start) else unfinished)) (later ∙ sym now)
    ∙ sym (header_by_lines start bytes (fields bytes) false refl end)

-- one of which nothing is said
not_said : (start : ℕ) (bytes : List ℕ) → has_end bytes ≡ false → before_bad [] (near_lines bytes) ≡ None → length bytes < LONGEST_HEADER_PART → header_of start bytes ≡ unfinished
not_said start bytes end good short =
    header_by_lines start bytes (near_lines bytes) false (fields_are bytes end) end
    ∙ ap (λ o. judged start o (if nat_le LONGEST_HEADER_PART (length bytes) then faulty (BadHeader start) else unfinished)) good
    ∙ ap (λ b. if b then faulty (BadHeader start) else unfinished) (lt-leb LONGEST_HEADER_PART (length bytes) short)

-- what is said of a header part stays
pub header_stays : (start : ℕ) (bytes more : List ℕ) → (header_of start bytes ≡ unfinished) ⊎ (header_of start (bytes ++ more) ≡ header_of start bytes)
header_stays start bytes more = by_end (has_end bytes) refl
  where
    by_good : (o : Option (List (List ℕ))) → has_end bytes ≡ false → before_bad [] (near_lines bytes) ≡ o → (header_of start bytes ≡ unfinished) ⊎ (header_of start (bytes ++ more) ≡ header_of start bytes)
    by_good None end good =
        ⊎_elim (λ (short : length bytes < LONGEST_HEADER_PART). inl (not_said start bytes end good short)) (λ (long : LONGEST_HEADER_PART ≤ length bytes). inr (stays_long start bytes more end long)) (cases_lt (length bytes) LONGEST_HEADER_PART)
    by_good (Some bad) end h = inr (stays_bad start bytes more bad end h)

    by_end : (b : Bool) → has_end bytes ≡ b → (header_of start bytes ≡ unfinished) ⊎ (header_of start (bytes ++ more) ≡ header_of start bytes)
    by_end true end = inr (stays_ended start bytes more end)
    by_end false end = by_good (before_bad [] (near_lines bytes)) end refl

-- the lines before the empty one, and the empty one
joined_size : (ls : List (List ℕ)) → list_any is_empty ls ≡ true → length (joined (before_first is_empty ls)) + 2 ≤ length (joined ls)
joined_size [] h = cc
joined_size ([] ∷ ls) h = omega arith
joined_size ((b ∷ l) ∷ ls) h =
    let filled : is_empty (b ∷ l) ≡ false = eqb-suc-zero (length l) in
    let next = joined_size ls (any_behind (is_empty (b ∷ l)) (list_any is_empty ls) filled h) in
    let line : List ℕ = (b ∷ l) ++ line_end in
    omega (arith, next, ap (λ qs. length (joined qs)) (keeps_first (b ∷ l) ls [] filled), length-append line (joined ls), length-append line (joined (before_first is_empty ls)))

-- a header part that has ended is there
whole_within : (start : ℕ) (bytes : List ℕ) (n m : ℕ) → header_of start bytes ≡ whole n m → n ≤ length bytes
whole_within start bytes n m h =
    let told = is_ended start bytes n m h in
    let window : List ℕ = take LONGEST_HEADER_PART bytes in
    let c = cut_all window in
    let size : length (joined (near_lines bytes)) ≤ length window =
    omega (arith, ap length c.2.is, length-append (joined c.0) c.1, ap (λ qs. length (joined qs)) (lines_are window c.0 c.1 c.2)) in
    omega (arith, told.size_is, joined_size (near_lines bytes) told.end, size, length-take LONGEST_HEADER_PART bytes)

-- MESSAGES

first_stays : (test : Bool) (n : ℕ) (bytes more body others : List ℕ) → nat_le n (length bytes) ≡ test → first_if test n bytes ≡ Some (body, others) → first_bytes n (bytes ++ more) ≡ Some (body, others ++ more)
first_stays true n bytes more body others t h =
    let here : List ℕ × List ℕ = (take n bytes, drop n bytes) in
    let there : List ℕ × List ℕ = (body, others) in
    let found : here ≡ there = cc in
    let some : n ≤ length bytes = grind (arith, nat_tests) in
    let test : nat_le n (length (bytes ++ more)) ≡ true = le-leb _ _ (omega (arith, length-append bytes more)) in
    let first : take n (bytes ++ more) ≡ body = take-append-le n bytes more some ∙ ap (λ (f : List ℕ × List ℕ). f.0) found in
    let rest : drop n (bytes ++ more) ≡ others ++ more = drop-append-le n bytes more some ∙ ap (λ (f : List ℕ × List ℕ). f.1 ++ more) found in
    rw (test, first, rest) refl
first_stays false n bytes more body others t h = cc

content_stays : (h : Header) (bytes more body others : List ℕ) → ((n m : ℕ) → h ≡ whole n m → n ≤ length bytes) → message_parts h bytes ≡ Some (body, others) → message_parts h (bytes ++ more) ≡ Some (body, others ++ more)
content_stays unfinished bytes more body others within e = cc
content_stays (faulty fault) bytes more body others within e = cc
content_stays (whole n m) bytes more body others within e =
    ap (first_bytes m) (drop-append-le n bytes more (within n m refl)) ∙ first_stays (nat_le m (length (drop n bytes))) m (drop n bytes) more body others refl e

-- a message that is all there stays
message_stays : (start : ℕ) (bytes more body others : List ℕ) → message start bytes ≡ Some (body, others) → message start (bytes ++ more) ≡ Some (body, others ++ more)
message_stays start bytes more body others e =
    ⊎_elim (λ none. let no : message start bytes ≡ None = ap (λ h. message_parts h bytes) none in absurd cc)
    (λ same. ap (λ h. message_parts h (bytes ++ more)) same ∙ content_stays (header_of start bytes) bytes more body others (whole_within start bytes) e)
    (header_stays start bytes more)

-- STREAMS

-- the split goes on with what is behind its messages
GoesOn : ℕ → List ℕ → Split → Type 0
GoesOn start bytes s = Continues start bytes s.bodies s.start s.rest

goes_behind : (start : ℕ) (bytes body others : List ℕ) → message start bytes ≡ Some (body, others) → GoesOn (start + (length bytes - length others)) others (split (start + (length bytes - length others)) others) → GoesOn start bytes (split start bytes)
unfolding GoesOn
goes_behind start bytes body others e next =
    let at : ℕ = start + (length bytes - length others) in
    subst (GoesOn start bytes) (sym (split_message start bytes body others e)) (λ more.
    let size : length (bytes ++ more) - length (others ++ more) ≡ length bytes - length others = omega (arith, length-append bytes more, length-append others more) in
    split_message start (bytes ++ more) body (others ++ more) (message_stays start bytes more body others e) ∙ ap (λ n. with_body body (split (start + n) (others ++ more))) size ∙ ap (with_body body) (next more))

goes_within : (most start : ℕ) (bytes : List ℕ) → length bytes ≤ most → (o : Option (List ℕ × List ℕ)) → message start bytes ≡ o → GoesOn start bytes (split start bytes)
unfolding GoesOn
goes_within most start bytes h None e = subst (GoesOn start bytes) (sym (split_none start bytes e)) (λ more. refl)
goes_within zero start bytes h (Some (body, others)) e = absurd (omega (arith, message_shorter start bytes (body, others) e))
goes_within (suc most) start bytes h (Some (body, others)) e =
    let at : ℕ = start + (length bytes - length others) in
    goes_behind start bytes body others e (goes_within most at others (omega (arith, message_shorter start bytes (body, others) e)) (message at others) refl)

-- a stream goes on behind its messages
pub stream_goes_on : (start : ℕ) (bytes : List ℕ) → let s = split start bytes in Continues start bytes s.bodies s.start s.rest
unfolding GoesOn
stream_goes_on start bytes = goes_within (length bytes) start bytes (omega arith) (message start bytes) refl

-- what a stream has handed out stays, however it goes on
pub bodies_stay : (bytes more : List ℕ) → KeepsBodies bytes more
bodies_stay bytes more = let s = split 0 bytes in ((split s.start (s.rest ++ more)).bodies, ap (λ (t : Split). t.bodies) (stream_goes_on 0 bytes more))

fault_said : (h : Header) (rest : List ℕ) (found : FrameFault) → rest_fault h rest false ≡ Some found → h ≡ faulty found
fault_said unfinished rest found e = cc
fault_said (faulty fault) rest found e = let same : fault ≡ found = cc in ap faulty same
fault_said (whole size body) rest found e = cc

-- a fault that does not come from the end of the stream is there for good, and no body comes behind it
pub fault_stays : (bytes more : List ℕ) → KeepsFault bytes more
fault_stays bytes more found h =
    let s = split 0 bytes in
    let said : header_of s.start s.rest ≡ faulty found = fault_said (header_of s.start s.rest) s.rest found h in
    let still : header_of s.start (s.rest ++ more) ≡ faulty found = ⊎_elim (λ none. absurd cc) (λ same. same ∙ said) (header_stays s.start s.rest more) in
    let none : message s.start (s.rest ++ more) ≡ None = ap (λ t. message_parts t (s.rest ++ more)) still in
    let is : split 0 (bytes ++ more) ≡ record { bodies = s.bodies ++ []; start = s.start; rest = s.rest ++ more } = stream_goes_on 0 bytes more ∙ ap (with_bodies s.bodies) (split_none s.start (s.rest ++ more) none) in
    (ap (λ (t : Split). t.bodies) is ∙ append-nil s.bodies, λ closed. ap (λ (t : Split). rest_fault (header_of t.start t.rest) t.rest closed) is ∙ ap (λ t. rest_fault t (s.rest ++ more) closed) still)
