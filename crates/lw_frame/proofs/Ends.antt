-- Where a header part ends at the soonest.
use Rattle.std.proofs.Common.{◌≡◌, ◌∙◌, ◌<◌, ◌≤◌, ◌+◌, ◌-◌, max, ◌==◌, ◌⊎◌, inl, inr, ⊎_elim, ℕ, List, [], ◌∷◌, ◌++◌, length, take, drop, nat_eq, nat_le, nat_lt, Bool, true, false, cond, not, ◌&&◌, ◌||◌, if◌then◌else◌, Option, Some, None, refl, sym, ap, arith, subst, append_assoc, append-nil, length-append, length-take, length-drop, codes, find, option_and_then}
use Rattle.std.proofs.Math.Seq.{drop-append_seam}
use Rattle.std.proofs.Math.Dec.{eqb-suc-zero}
use Rattle.std.proofs.lemmas.Grind.{flat_map-append}
use Rattle.std.proofs.lemmas.List.Folds.{list_any-append}
use Rattle.std.proofs.lemmas.Slice.Eq.{bytes_eq-Decides}
use Rattle.std.proofs.lemmas.Bool.Decides.{nat_tests}
use Rattle.std.proofs.lemmas.List.{length-map}
use Rattle.std.proofs.lemmas.Bool.{cases_lt, and_parts}
use Rattle.std.specs.Str.{all_ascii_digits, str_eq_ignore_ascii_case, str_to_ascii_lowercase}
use Rattle.std.specs.Str.Parse.{digits_value}
use Rattle.std.specs.List.{starts_with, ends_with, onto_first, before_first, list_any, position_or_len, prefix_len, suffix_len}
use Rattle.lw_frame.specs.Lines.{line_end, cut_first, parts, front, lines, joined, is_empty, last_part, current_line}
use Rattle.lw_frame.specs.Header.{unfinished, faulty, whole, header_of, fields, has_end, near_lines, ended, judged, before_bad, good_so_far, length_of, names_length, length_in, is_colon, is_blank, name, value, without_blanks_before, without_blanks_after}
use Rattle.lw_frame.specs.Stage.{IsAt, IsHeader, is_open}
use Rattle.lw_frame.specs.Reading.{EndsBehind}
use Rattle.lw_frame.specs.Wanted.{shortest_header, fewest_left}
use Rattle.lw_frame.proofs.Cuts.{parts-nonempty, parts-open, parts-joined, lines-joined}
use Rattle.lw_frame.proofs.Headers.{keeps_first, before_empty, near}
use Rattle.lw_frame.specs.declared.fault.FrameFault.TheVariants.{BadHeader, TooLong}
use Rattle.lw_frame.specs.declared.stage.Stage.TheVariants as stage
use Rattle.lw_frame.specs.declared.limits.TheConstants.{LONGEST_HEADER_PART, LONGEST_BODY}

-- A CURRENT LINE, AND WHAT FOLLOWS IT

-- the front of a part, or the part and a `\r` of its line end
Holds : List ℕ → List ℕ → Type 0
Holds current first = ((rest : List ℕ) × (current ++ rest ≡ first)) ⊎ (current ≡ first ++ 13 ∷ [])

-- the bytes that begin with a line end
pub begins : (b : ℕ) (bytes : List ℕ) → starts_with nat_eq (b ∷ bytes) line_end ≡ true → (b ≡ 13) × ((rest : List ℕ) × (bytes ≡ 10 ∷ rest))
begins b [] h = let e : line_end ≡ b ∷ [] = (bytes_eq-Decides line_end (b ∷ [])).0 h in cc
begins b (d ∷ bytes) h = let e : line_end ≡ b ∷ d ∷ [] = (bytes_eq-Decides line_end (b ∷ d ∷ [])).0 h in let first : b ≡ 13 = cc in let second : d ≡ 10 = cc in (first, (bytes, ap (λ n. n ∷ bytes) second))

-- what is open does not
no_line_end : (b d : ℕ) (bytes : List ℕ) → is_open (b ∷ d ∷ bytes) ≡ true → b ≡ 13 → d ≡ 10 → ⊥
no_line_end b d bytes h first second =
    let test = (and_parts (not (starts_with nat_eq (b ∷ d ∷ bytes) line_end)) (is_open (d ∷ bytes)) h).0 in
    let bad : not (starts_with nat_eq (b ∷ d ∷ bytes) line_end) ≡ false = rw (first, second) refl in
    cc

cut_here : (b : ℕ) (current part rest : List ℕ) → is_open (b ∷ current) ≡ true → b ≡ 13 → part ≡ 10 ∷ rest → Holds current part → Holds (b ∷ current) []
unfolding Holds
cut_here b [] part rest h first e at = inr (ap (λ n. n ∷ []) first)
cut_here b (d ∷ current) part rest h first e at =
    absurd (⊎_elim (λ is. let second : d ≡ 10 = let all = is.1 in cc in no_line_end b d current h first second) (λ is. let other : d ∷ current ≡ 10 ∷ (rest ++ 13 ∷ []) = is ∙ ap (λ bs. bs ++ 13 ∷ []) e in let second : d ≡ 10 = cc in no_line_end b d current h first second) at)

part_step : (test : Bool) (b : ℕ) (current part first : List ℕ) (others all : List (List ℕ)) → starts_with nat_eq (b ∷ part) line_end ≡ test → is_open (b ∷ current) ≡ true → Holds current part
    → (if test then [] ∷ drop 2 (b ∷ part) ∷ others else (b ∷ part) ∷ others) ≡ first ∷ all → Holds (b ∷ current) first
unfolding Holds
part_step true b current part first others all t h at e =
    let is = begins b part t in
    let none : [] ≡ first = cc in
    subst (λ bs. Holds (b ∷ current) bs) none (cut_here b current part is.1.0 h is.0 is.1.1 at)
part_step false b current part first others all t h at e =
    let is : b ∷ part ≡ first = cc in
    subst (λ bs. Holds (b ∷ current) bs) is (⊎_elim (λ inside. inl (inside.0, ap (λ bs. b ∷ bs) inside.1)) (λ ended. inr (ap (λ bs. b ∷ bs) ended)) at)

-- an open line is held by the first part of what begins with it
first_part : (current more first : List ℕ) (others : List (List ℕ)) → is_open current ≡ true → parts (current ++ more) ≡ first ∷ others → Holds current first
unfolding Holds
first_part [] more first others h e = inl (first, refl)
first_part (b ∷ current) more first others h e =
    let test = and_parts (not (starts_with nat_eq (b ∷ current) line_end)) (is_open current) h in
    let ps = parts-nonempty (current ++ more) in
    let here : cut_first (onto_first b (ps.0 ∷ ps.1)) ≡ first ∷ others = sym (ap (λ qs. cut_first (onto_first b qs)) ps.2) ∙ e in
    part_step (starts_with nat_eq (b ∷ ps.0) line_end) b current ps.0 first ps.1 others refl h (first_part current more ps.0 ps.1 test.1 ps.2) here

at_most_four : (empty returns single : Bool) → (if empty then 2 else if returns then (if single then 1 else 3) else 4) ≤ 4
at_most_four true returns single = omega arith
at_most_four false true true = omega arith
at_most_four false true false = omega arith
at_most_four false false single = omega arith

fewest_left-le : (line : List ℕ) → fewest_left line ≤ 4
fewest_left-le line = at_most_four (is_empty line) (ends_with nat_eq line (13 ∷ [])) (length line == 1)

not_one : (n : ℕ) → 1 < n → (n == 1) ≡ false
not_one n h = grind (arith, nat_tests)

abbrev fewest_by : Bool → Bool → Bool → ℕ
fewest_by empty returns single = if empty then 2 else if returns then (if single then 1 else 3) else 4

three_is : (empty returns single : Bool) → empty ≡ false → returns ≡ true → single ≡ false → fewest_by empty returns single ≡ 3
three_is empty returns single e f g = rw (e, f, g) refl

-- behind a `\r` that ends a line
fewest_left-return : (b : ℕ) (line : List ℕ) → fewest_left ((b ∷ line) ++ 13 ∷ []) ≡ 3
fewest_left-return b line =
    let size : length ((b ∷ line) ++ 13 ∷ []) - 1 ≡ length (b ∷ line) = omega (arith, length-append (b ∷ line) (13 ∷ [])) in
    let last : drop (length ((b ∷ line) ++ 13 ∷ []) - 1) ((b ∷ line) ++ 13 ∷ []) ≡ 13 ∷ [] = ap (λ n. drop n ((b ∷ line) ++ 13 ∷ [])) size ∙ drop-append_seam (b ∷ line) (13 ∷ []) in
    let returns : ends_with nat_eq ((b ∷ line) ++ 13 ∷ []) (13 ∷ []) ≡ true = (bytes_eq-Decides (13 ∷ []) (drop (length ((b ∷ line) ++ 13 ∷ []) - 1) ((b ∷ line) ++ 13 ∷ []))).1 (sym last) in
    three_is (is_empty ((b ∷ line) ++ 13 ∷ [])) (ends_with nat_eq ((b ∷ line) ++ 13 ∷ []) (13 ∷ [])) (length ((b ∷ line) ++ 13 ∷ []) == 1) (eqb-suc-zero (length (line ++ 13 ∷ []))) returns
    (not_one (length ((b ∷ line) ++ 13 ∷ [])) (omega (arith, length-append (b ∷ line) (13 ∷ []))))

nothing : (xs ys : List ℕ) → xs ++ ys ≡ [] → xs ≡ []
nothing [] ys e = refl
nothing (x ∷ xs) ys e = cc

parts_end : (first current : List ℕ) (others : List (List ℕ)) → Holds current first → list_any is_empty (front (first ∷ others)) ≡ true
    → length current + fewest_left current ≤ length (joined (before_first is_empty (front (first ∷ others)))) + 2
unfolding Holds
parts_end first current [] at some = cc
parts_end [] current (o ∷ others) at some =
    let short : length current + fewest_left current ≡ 2 =
    ⊎_elim (λ inside. ap (λ bs. length bs + fewest_left bs) (nothing current inside.0 inside.1)) (λ ended. ap (λ bs. length bs + fewest_left bs) ended) at in
    omega arith
parts_end (b ∷ first) current (o ∷ others) at some =
    let ls = front (o ∷ others) in
    let is : before_first is_empty ((b ∷ first) ∷ ls) ≡ (b ∷ first) ∷ before_first is_empty ls = keeps_first (b ∷ first) ls [] (eqb-suc-zero (length first)) in
    let long : length (joined (before_first is_empty ((b ∷ first) ∷ ls))) ≡ length (b ∷ first) + 2 + length (joined (before_first is_empty ls)) =
    ap (λ qs. length (joined qs)) is ∙ length-append ((b ∷ first) ++ line_end) (joined (before_first is_empty ls)) ∙ ap (λ n. n + length (joined (before_first is_empty ls))) (length-append (b ∷ first) line_end) in
    ⊎_elim (λ inside. omega (arith, long, fewest_left-le current, ap length inside.1, length-append current inside.0))
    (λ ended. let least : length current + fewest_left current ≡ (length (b ∷ first) + 1) + 3 = ap (λ bs. length bs + fewest_left bs) ended ∙ (let size = length-append (b ∷ first) (13 ∷ []) in let three = fewest_left-return b first in omega arith) in omega (arith, long, least)) at

-- the lines up to the empty one go behind the current line
lines_end : (current more : List ℕ) → is_open current ≡ true → list_any is_empty (lines (current ++ more)) ≡ true → length current + fewest_left current ≤ length (joined (before_first is_empty (lines (current ++ more)))) + 2
lines_end current more h some =
    let ps = parts-nonempty (current ++ more) in
    let told : list_any is_empty (front (ps.0 ∷ ps.1)) ≡ true = ap (λ qs. list_any is_empty (front qs)) (sym ps.2) ∙ some in
    subst (λ qs. length current + fewest_left current ≤ length (joined (before_first is_empty (front qs))) + 2) (sym ps.2) (parts_end ps.0 current ps.1 (first_part current more ps.0 ps.1 h ps.2) told)

-- A HEADER PART THAT HAS ENDED

-- what it is
pub record IsEnded (bytes : List ℕ) (size body : ℕ) : Type 0 where
  pub end : has_end bytes ≡ true
  pub size_is : size ≡ length (joined (fields bytes)) + 2
  pub gives : length_of (fields bytes) ≡ Some body

ended_is : (start size : ℕ) (given : Option ℕ) (n m : ℕ) → ended start size given ≡ whole n m → (n ≡ size) × (given ≡ Some m)
ended_is start size None n m h = cc
ended_is start size (Some body) n m h = long_is (nat_lt LONGEST_BODY body) h
  where
    long_is : (b : Bool) → (if b then faulty (TooLong body) else whole size body) ≡ whole n m → (n ≡ size) × (Some body ≡ Some m)
    long_is true h = cc
    long_is false h = let e : size ≡ n = cc in let f : body ≡ m = cc in (sym e, ap Some f)

pub is_ended : (start : ℕ) (bytes : List ℕ) (n m : ℕ) → header_of start bytes ≡ whole n m → IsEnded bytes n m
is_ended start bytes n m h = judged_is (before_bad [] (fields bytes)) h
  where
    good_is : (b c : Bool) → has_end bytes ≡ b → (if b then ended start (length (joined (fields bytes)) + 2) (length_of (fields bytes)) else if c then faulty (BadHeader start) else unfinished) ≡ whole n m → IsEnded bytes n m
    good_is true c e h = let is = ended_is start (length (joined (fields bytes)) + 2) (length_of (fields bytes)) n m h in record { end = e; size_is = is.0; gives = is.1 }
    good_is false true e h = cc
    good_is false false e h = cc

    judged_is : (o : Option (List (List ℕ))) → judged start o (good_so_far start bytes) ≡ whole n m → IsEnded bytes n m
    judged_is None h = good_is (has_end bytes) (nat_le LONGEST_HEADER_PART (length bytes)) refl h
    judged_is (Some before) h = cc

pub any_behind : (a b : Bool) → a ≡ false → (a || b) ≡ true → b ≡ true
any_behind true b h k = cc
any_behind false b h k = k

-- it goes behind its current line
header_goes_on : (start : ℕ) (header : List ℕ) (line : ℕ) (given : Option ℕ) (piece : List ℕ) (n m : ℕ) → IsHeader header line given → is_open (drop line header) ≡ true → length header < LONGEST_HEADER_PART
    → header_of start (header ++ piece) ≡ whole n m → length header + fewest_left (drop line header) ≤ n
header_goes_on start header line given piece n m is uncut short said =
    let current : List ℕ = drop line header in
    let more : List ℕ = take (LONGEST_HEADER_PART - length header) piece in
    let told = is_ended start (header ++ piece) n m said in
    let window : take LONGEST_HEADER_PART (header ++ piece) ≡ joined is.before ++ (current ++ more) = near header piece (omega arith) ∙ ap (λ bs. bs ++ more) is.bytes ∙ append_assoc (joined is.before) current more in
    let near_are : near_lines (header ++ piece) ≡ is.before ++ lines (current ++ more) = ap lines window ∙ lines-joined is.before (current ++ more) is.good.cut in
    let fields_are : fields (header ++ piece) ≡ is.before ++ before_first is_empty (lines (current ++ more)) = ap (before_first is_empty) near_are ∙ before_empty is.before (lines (current ++ more)) is.good.filled in
    let some : list_any is_empty (lines (current ++ more)) ≡ true =
    any_behind (list_any is_empty is.before) (list_any is_empty (lines (current ++ more))) is.good.filled (sym (list_any-append is_empty is.before (lines (current ++ more))) ∙ sym (ap (list_any is_empty) near_are) ∙ told.end) in
    let bytes_are : joined (fields (header ++ piece)) ≡ joined is.before ++ joined (before_first is_empty (lines (current ++ more))) = ap joined fields_are ∙ flat_map-append (λ line. line ++ line_end) is.before (before_first is_empty (lines (current ++ more))) in
    omega (arith, told.size_is, ap length bytes_are, length-append (joined is.before) (joined (before_first is_empty (lines (current ++ more)))), ap length is.bytes, length-append (joined is.before) current, lines_end current more uncut some)

-- THE SHORTEST ONE

same_size : (xs ys : List ℕ) → str_eq_ignore_ascii_case xs ys ≡ true → length xs ≡ length ys
same_size xs ys h =
    let same : str_to_ascii_lowercase xs ≡ str_to_ascii_lowercase ys = (bytes_eq-Decides (str_to_ascii_lowercase xs) (str_to_ascii_lowercase ys)).0 h in
    simp length-map at (ap length same)

some_digits : (a b c : Bool) (v n : ℕ) → (if a && b && c then Some v else None) ≡ Some n → a ≡ true
some_digits true b c v n h = refl
some_digits false b c v n h = cc

at_least_one : (n : ℕ) → nat_le 1 n ≡ true → 1 ≤ n
at_least_one n h = grind (arith, nat_tests)

-- a field that gives a length
field_size : (line : List ℕ) (n : ℕ) → names_length line ≡ true → length_in line ≡ Some n → 16 ≤ length line
field_size line n named gives =
    let at : ℕ = position_or_len is_colon line in
    let right : List ℕ = without_blanks_before (value line) in
    let text : List ℕ = without_blanks_after right in
    let name_size : length (name line) ≡ 14 = same_size (name line) (codes "content-length") named in
    let digits : 1 ≤ length text = at_least_one (length text) (some_digits (nat_le 1 (length text)) (nat_le (length text) 10) (all_ascii_digits text) (digits_value 10 text) n gives) in
    let text_size : length text ≤ length right = omega (arith, length-take (length right - suffix_len is_blank right) right) in
    let right_size : length right ≤ length (value line) = omega (arith, length-drop (prefix_len is_blank (value line)) (value line)) in
    omega (arith, length-take at line, length-drop (at + 1) line)

-- the lines of which one gives a length
fields_size : (ls : List (List ℕ)) (n : ℕ) → length_of ls ≡ Some n → 18 ≤ length (joined ls)
fields_size [] n h = cc
fields_size (l ∷ ls) n h = field_step (names_length l) refl (fields_size ls n) h
  where
    size : length (joined (l ∷ ls)) ≡ length l + 2 + length (joined ls)
    size = length-append (l ++ line_end) (joined ls) ∙ ap (λ k. k + length (joined ls)) (length-append l line_end)

    field_step : (named : Bool) → names_length l ≡ named → (length_of ls ≡ Some n → 18 ≤ length (joined ls)) → option_and_then length_in (cond named (Some l) (find names_length ls)) ≡ Some n → 18 ≤ length (joined (l ∷ ls))
    field_step true e others h = let long = field_size l n e h in omega (arith, size)
    field_step false e others h = let long = others h in omega (arith, size)

header_size : (start : ℕ) (bytes : List ℕ) (n m : ℕ) → header_of start bytes ≡ whole n m → shortest_header ≤ n
header_size start bytes n m said =
    let told = is_ended start bytes n m said in
    omega (arith, told.size_is, fields_size (fields bytes) m told.gives)

-- THE SOONEST END

either : (n a b : ℕ) → n ≤ max a b → (n ≤ a) ⊎ (n ≤ b)
either n a b h = ⊎_elim (λ less. inr (omega arith)) (λ more. inl (omega arith)) (cases_lt a b)

pub header_ends : (start : ℕ) (header body : List ℕ) (line : ℕ) (given : Option ℕ) → IsAt (stage.Header line given) start header body
    → EndsBehind start (header ++ body) (max (shortest_header - length header) (fewest_left (drop line header)))
header_ends start header body line given (none, is, uncut, short) piece size n m said =
    let bytes_are : (header ++ body) ++ piece ≡ header ++ piece = ap (λ bs. (header ++ bs) ++ piece) none ∙ ap (λ bs. bs ++ piece) (append-nil header) in
    let said_here : header_of start (header ++ piece) ≡ whole n m = ap (header_of start) (sym bytes_are) ∙ said in
    let long = header_goes_on start header line given piece n m is uncut short said_here in
    let least = header_size start (header ++ piece) n m said_here in
    let all : length ((header ++ body) ++ piece) ≡ length header + length piece = ap length bytes_are ∙ length-append header piece in
    ⊎_elim (λ (few : length piece ≤ shortest_header - length header). omega arith) (λ (few : length piece ≤ fewest_left (drop line header)). omega arith) (either (length piece) (shortest_header - length header) (fewest_left (drop line header)) size)

last_push : (ls : List (List ℕ)) (line : List ℕ) → last_part (ls ++ line ∷ []) ≡ line
last_push [] line = refl
last_push (l ∷ []) line = refl
last_push (l ∷ k ∷ ls) line = last_push (k ∷ ls) line

-- the current line of a header part that has not ended
pub current_is : (header : List ℕ) (line : ℕ) (given : Option ℕ) → IsHeader header line given → is_open (drop line header) ≡ true → current_line header ≡ drop line header
current_is header line given is uncut =
    ap current_line is.bytes ∙ ap last_part (parts-joined is.before (drop line header) is.good.cut ∙ ap (λ qs. is.before ++ qs) (parts-open (drop line header) uncut)) ∙ last_push is.before (drop line header)
