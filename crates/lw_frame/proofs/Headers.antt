-- What a header part says, by its lines.
use Rattle.std.proofs.Common.{◌≡◌, ◌∙◌, ◌<◌, ◌≤◌, ◌+◌, ◌-◌, ℕ, suc, List, [], ◌∷◌, ◌++◌, length, take, Bool, true, false, cond, not, if◌then◌else◌, Option, Some, None, refl, sym, ap, arith, append_assoc, append-nil, length-append, nat_le}
use Rattle.std.proofs.Math.Seq.{take-append_seam, take-append-add}
use Rattle.std.proofs.lemmas.List.{take_all}
use Rattle.std.proofs.lemmas.List.Folds.{list_any-append}
use Rattle.std.proofs.lemmas.Bool.Decides.{nat_tests}
use Rattle.std.proofs.lemmas.Bool.{le-leb, or_parts, lt-leb}
use Rattle.std.specs.List.{before_first, position_or_len, list_any}
use Rattle.lw_frame.specs.Lines.{line_end, joined, lines, is_empty}
use Rattle.lw_frame.specs.Header.{unfinished, faulty, header_of, fields, has_end, near_lines, ended, judged, before_bad, length_of, is_good}
use Rattle.lw_frame.specs.Stage.{AreGood, HeaderSays, is_open}
use Rattle.lw_frame.proofs.Cuts.{lines-joined, lines-open, lines-line}
use Rattle.lw_frame.specs.declared.fault.FrameFault.TheVariants.{BadHeader}
use Rattle.lw_frame.specs.declared.limits.TheConstants.{LONGEST_HEADER_PART}

pub keeps_first : (line : List ℕ) (ls others : List (List ℕ)) → is_empty line ≡ false → before_first is_empty (line ∷ ls) ≡ line ∷ before_first is_empty ls
keeps_first line ls others h =
    let test : cond (not (is_empty line)) (1 + position_or_len is_empty ls) 0 ≡ suc (position_or_len is_empty ls) = ap (λ b. cond (not b) (1 + position_or_len is_empty ls) 0) h ∙ omega arith in
    ap (λ n. take n (line ∷ ls)) test

-- lines that are not empty stand before the first empty one
pub before_empty : (ls others : List (List ℕ)) → list_any is_empty ls ≡ false → before_first is_empty (ls ++ others) ≡ ls ++ before_first is_empty others
before_empty [] others h = refl
before_empty (line ∷ ls) others h =
    let test = or_parts (is_empty line) (list_any is_empty ls) h in
    keeps_first line (ls ++ others) others test.0 ∙ ap (λ qs. line ∷ qs) (before_empty ls others test.1)

-- the header part, by its lines before the empty one
pub header_by_lines : (start : ℕ) (bytes : List ℕ) (ls : List (List ℕ)) (end : Bool) → fields bytes ≡ ls → has_end bytes ≡ end
    → header_of start bytes ≡ judged start (before_bad [] ls) (if end then ended start (length (joined ls) + 2) (length_of ls) else if nat_le LONGEST_HEADER_PART (length bytes) then faulty (BadHeader start) else unfinished)
header_by_lines start bytes ls end e f = rw (e, f) refl

-- what lies within the limit
pub near : (bytes more : List ℕ) → length bytes ≤ LONGEST_HEADER_PART → take LONGEST_HEADER_PART (bytes ++ more) ≡ bytes ++ take (LONGEST_HEADER_PART - length bytes) more
near bytes more h =
    let whole : LONGEST_HEADER_PART ≡ length bytes + (LONGEST_HEADER_PART - length bytes) = omega arith in
    ap (λ n. take n (bytes ++ more)) whole ∙ take-append-add bytes more (LONGEST_HEADER_PART - length bytes)

-- behind the empty line
pub says_ended : (start : ℕ) (header : List ℕ) (ls : List (List ℕ)) (given : Option ℕ) → AreGood ls given → header ≡ joined ls ++ line_end → length header ≤ LONGEST_HEADER_PART → HeaderSays start header (ended start (length header) given)
says_ended start header ls given good is h more =
    let rest = take (LONGEST_HEADER_PART - length header) more in
    let window : take LONGEST_HEADER_PART (header ++ more) ≡ joined ls ++ (13 ∷ 10 ∷ rest) = near header more h ∙ ap (λ bs. bs ++ rest) is ∙ append_assoc (joined ls) line_end rest in
    let near_are : near_lines (header ++ more) ≡ ls ++ [] ∷ lines rest = ap lines window ∙ lines-joined ls (13 ∷ 10 ∷ rest) good.cut ∙ ap (λ qs. ls ++ qs) (lines-line [] rest refl) in
    let fields_are : fields (header ++ more) ≡ ls = ap (before_first is_empty) near_are ∙ before_empty ls ([] ∷ lines rest) good.filled ∙ append-nil ls in
    let end : has_end (header ++ more) ≡ true = ap (list_any is_empty) near_are ∙ list_any-append is_empty ls ([] ∷ lines rest) ∙ grind (arith, nat_tests) in
    let size : length (joined ls) + 2 ≡ length header = sym (ap length is ∙ length-append (joined ls) line_end) in
    header_by_lines start (header ++ more) ls true fields_are end ∙ rw (good.good, good.gives, size) refl

push_step : (test : Bool) (before : List (List ℕ)) (l : List ℕ) (ls : List (List ℕ)) (line : List ℕ)
    → (before_bad (before ++ l ∷ []) ls ≡ None → before_bad (before ++ l ∷ []) (ls ++ line ∷ []) ≡ (if is_good ((before ++ l ∷ []) ++ ls) line then None else Some ((before ++ l ∷ []) ++ ls)))
    → (if test then before_bad (before ++ l ∷ []) ls else Some before) ≡ None
    → (if test then before_bad (before ++ l ∷ []) (ls ++ line ∷ []) else Some before) ≡ (if is_good (before ++ l ∷ ls) line then None else Some (before ++ l ∷ ls))
push_step true before l ls line next h = next h ∙ ap (λ qs. if is_good qs line then None else Some qs) (append_assoc before (l ∷ []) ls)
push_step false before l ls line next h = cc

-- good lines, and one more
pub before_bad-push : (before ls : List (List ℕ)) (line : List ℕ) → before_bad before ls ≡ None → before_bad before (ls ++ line ∷ []) ≡ (if is_good (before ++ ls) line then None else Some (before ++ ls))
before_bad-push before [] line h = rw append-nil refl
before_bad-push before (l ∷ ls) line h = push_step (is_good before l) before l ls line (before_bad-push (before ++ l ∷ []) ls line) h

-- a line that is not good stays the first one
pub before_bad-stop : (before ls others : List (List ℕ)) (bad : List (List ℕ)) → before_bad before ls ≡ Some bad → before_bad before (ls ++ others) ≡ Some bad
before_bad-stop before [] others bad h = cc
before_bad-stop before (l ∷ ls) others bad h = stop_step (is_good before l) before bad _ _ (before_bad-stop (before ++ l ∷ []) ls others bad) h
  where
    stop_step : (test : Bool) (before bad : List (List ℕ)) (now later : Option (List (List ℕ))) → (now ≡ Some bad → later ≡ Some bad) → (if test then now else Some before) ≡ Some bad → (if test then later else Some before) ≡ Some bad
    stop_step true before bad now later next h = next h
    stop_step false before bad now later next h = h

-- behind a line that is not good
pub says_bad : (start : ℕ) (header : List ℕ) (ls : List (List ℕ)) (given : Option ℕ) (line : List ℕ) → AreGood ls given → header ≡ joined ls ++ line ++ line_end → length header ≤ LONGEST_HEADER_PART
    → is_open line ≡ true → is_empty line ≡ false → is_good ls line ≡ false → HeaderSays start header (faulty (BadHeader (start + length (joined ls))))
says_bad start header ls given line good is h uncut filled bad more =
    let rest = take (LONGEST_HEADER_PART - length header) more in
    let window : take LONGEST_HEADER_PART (header ++ more) ≡ joined ls ++ (line ++ (13 ∷ 10 ∷ rest)) =
    near header more h ∙ ap (λ bs. bs ++ rest) (is ∙ append_assoc (joined ls) line line_end) ∙ append_assoc (joined ls) (line ++ line_end) rest ∙ ap (λ bs. joined ls ++ bs) (append_assoc line line_end rest) in
    let near_are : near_lines (header ++ more) ≡ ls ++ line ∷ lines rest = ap lines window ∙ lines-joined ls (line ++ (13 ∷ 10 ∷ rest)) good.cut ∙ ap (λ qs. ls ++ qs) (lines-line line rest uncut) in
    let others = before_first is_empty (lines rest) in
    let fields_are : fields (header ++ more) ≡ (ls ++ line ∷ []) ++ others =
    ap (before_first is_empty) near_are ∙ before_empty ls (line ∷ lines rest) good.filled ∙ ap (λ qs. ls ++ qs) (keeps_first line (lines rest) [] filled) ∙ sym (append_assoc ls (line ∷ []) others) in
    let stop : before_bad [] ((ls ++ line ∷ []) ++ others) ≡ Some ls = before_bad-stop [] (ls ++ line ∷ []) others ls (before_bad-push [] ls line good.good ∙ ap (λ b. if b then None else Some ls) bad) in
    header_by_lines start (header ++ more) ((ls ++ line ∷ []) ++ others) (has_end (header ++ more)) fields_are refl ∙ rw stop refl

-- at the limit
pub says_too_long : (start : ℕ) (header : List ℕ) (ls : List (List ℕ)) (given : Option ℕ) (line : List ℕ) → AreGood ls given → header ≡ joined ls ++ line → is_open line ≡ true → length header ≡ LONGEST_HEADER_PART
    → HeaderSays start header (faulty (BadHeader start))
says_too_long start header ls given line good is uncut h more =
    let window : take LONGEST_HEADER_PART (header ++ more) ≡ joined ls ++ line = ap (λ n. take n (header ++ more)) (sym h) ∙ take-append_seam header more ∙ is in
    let near_are : near_lines (header ++ more) ≡ ls = ap lines window ∙ lines-joined ls line good.cut ∙ ap (λ qs. ls ++ qs) (lines-open line uncut) ∙ append-nil ls in
    let fields_are : fields (header ++ more) ≡ ls = ap (before_first is_empty) (near_are ∙ sym (append-nil ls)) ∙ before_empty ls [] good.filled ∙ append-nil ls in
    let end : has_end (header ++ more) ≡ false = ap (list_any is_empty) near_are ∙ good.filled in
    let long : nat_le LONGEST_HEADER_PART (length (header ++ more)) ≡ true = le-leb _ _ (omega (arith, length-append header more)) in
    header_by_lines start (header ++ more) ls false fields_are end ∙ rw (good.good, long) refl

-- before its end, where the stream stops
pub header_unfinished : (start : ℕ) (header : List ℕ) (ls : List (List ℕ)) (given : Option ℕ) (line : List ℕ) → AreGood ls given → header ≡ joined ls ++ line → is_open line ≡ true → length header < LONGEST_HEADER_PART
    → header_of start header ≡ unfinished
header_unfinished start header ls given line good is uncut h =
    let window : take LONGEST_HEADER_PART header ≡ joined ls ++ line = take_all LONGEST_HEADER_PART header (omega arith) ∙ is in
    let near_are : near_lines header ≡ ls = ap lines window ∙ lines-joined ls line good.cut ∙ ap (λ qs. ls ++ qs) (lines-open line uncut) ∙ append-nil ls in
    let fields_are : fields header ≡ ls = ap (before_first is_empty) (near_are ∙ sym (append-nil ls)) ∙ before_empty ls [] good.filled ∙ append-nil ls in
    let end : has_end header ≡ false = ap (list_any is_empty) near_are ∙ good.filled in
    let short : nat_le LONGEST_HEADER_PART (length header) ≡ false = lt-leb _ _ h in
    header_by_lines start header ls false fields_are end ∙ rw (good.good, short) refl
