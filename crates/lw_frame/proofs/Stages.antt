-- The stage of a header part, from its lines.
use Rattle.std.proofs.Common.{◌≡◌, ◌∙◌, ◌≤◌, ◌+◌, ◌==◌, ℕ, List, [], ◌∷◌, ◌++◌, length, drop, Bool, true, false, cond, not, ◌&&◌, ◌||◌, if◌then◌else◌, Option, Some, None, refl, sym, ap, arith, subst, append_assoc, append-nil, zero-add, nat_lt, find, option_and_then, is_some}
use Rattle.std.proofs.Math.Seq.{drop-append_seam}
use Rattle.std.proofs.lemmas.Bool.Decides.{nat_tests}
use Rattle.std.proofs.lemmas.List.Folds.{list_any-append, list_all-append, find-append}
use Rattle.std.specs.List.{list_any}
use Rattle.std.specs.Option.{option_or}
use Rattle.lw_frame.specs.Lines.{line_end, joined, is_empty}
use Rattle.lw_frame.specs.Header.{faulty, whole, is_good, is_field, names_length, length_in}
use Rattle.lw_frame.specs.Field.{field_of, field_with}
use Rattle.lw_frame.specs.Stage.{AreGood, HeaderSays, IsAt, is_open, stage_within, stage_behind, stage_after}
use Rattle.lw_frame.proofs.Headers.{says_ended, says_bad, says_too_long, before_bad-push}
use Rattle.lw_frame.specs.declared.fault.FrameFault.TheVariants.{BadHeader, TooLong}
use Rattle.lw_frame.specs.declared.field.Field.{Field}
use Rattle.lw_frame.specs.declared.field.Field.TheVariants.{Length, Other, Bad}
use Rattle.lw_frame.specs.declared.stage.Stage.TheVariants as stage
use Rattle.lw_frame.specs.declared.limits.TheConstants.{LONGEST_HEADER_PART, LONGEST_BODY}
use Rattle.std.proofs.lemmas.Bool.{and_from, or_from}

-- what a line is, by its parts
other_is : (field named : Bool) (n : Option ℕ) → (if not field then Bad else if named then field_with n else Other) ≡ Other → (field ≡ true) × (named ≡ false)
other_is true true None h = cc
other_is true true (Some n) h = cc
other_is true false n h = (refl, refl)
other_is false named n h = cc

length_is : (field named : Bool) (n : Option ℕ) (m : ℕ) → (if not field then Bad else if named then field_with n else Other) ≡ Length m → (field ≡ true) × (named ≡ true) × (n ≡ Some m)
length_is true true None m h = cc
length_is true true (Some n) m h = (refl, refl, cc)
length_is true false n m h = cc
length_is false named n m h = cc

bad_is : (field named : Bool) (n : Option ℕ) (again : Bool) → (if not field then Bad else if named then field_with n else Other) ≡ Bad → (field && (not named || (is_some n && not again))) ≡ false
bad_is true true None again h = refl
bad_is true true (Some n) again h = cc
bad_is true false n again h = cc
bad_is false named n again h = refl

-- one more field that is another
pub good-other : (ls : List (List ℕ)) (given : Option ℕ) (line : List ℕ) → AreGood ls given → is_open line ≡ true → is_empty line ≡ false → field_of line ≡ Other → AreGood (ls ++ line ∷ []) given
good-other ls given line good uncut filled is =
    let parts = other_is (is_field line) (names_length line) (length_in line) is in
    let fits : is_good ls line ≡ true = rw (parts.0, parts.1) refl in
    let none : find names_length (line ∷ []) ≡ None = ap (λ b. cond b (Some line) None) parts.1 in
    let same : find names_length (ls ++ line ∷ []) ≡ find names_length ls = find-append names_length ls (line ∷ []) ∙ ap (option_or (find names_length ls)) none ∙ or_none (find names_length ls) in
    record {
      cut = list_all-append is_open ls (line ∷ []) ∙ and_from _ _ good.cut (and_from _ _ uncut refl);
      filled = list_any-append is_empty ls (line ∷ []) ∙ or_from _ _ good.filled (or_from _ _ filled refl);
      good = before_bad-push [] ls line good.good ∙ ap (λ b. if b then None else Some ls) fits;
      gives = ap (option_and_then length_in) same ∙ good.gives;
      named = list_any-append names_length ls (line ∷ []) ∙ ap (λ b. list_any names_length ls || (b || false)) parts.1 ∙ or_no (list_any names_length ls) ∙ good.named;
    }
  where
    or_none : (o : Option (List ℕ)) → option_or o None ≡ o
    or_none None = refl
    or_none (Some l) = refl

    or_no : (b : Bool) → (b || false) ≡ b
    or_no true = refl
    or_no false = refl

-- one more field that gives the length
pub good-length : (ls : List (List ℕ)) (n : ℕ) (line : List ℕ) → AreGood ls None → is_open line ≡ true → is_empty line ≡ false → field_of line ≡ Length n → AreGood (ls ++ line ∷ []) (Some n)
good-length ls n line good uncut filled is =
    let parts = length_is (is_field line) (names_length line) (length_in line) n is in
    let fits : is_good ls line ≡ true = rw (parts.0, parts.1, parts.2, good.named) refl in
    let absent : find names_length ls ≡ None = not_found names_length ls good.named in
    let here : find names_length (line ∷ []) ≡ Some line = ap (λ b. cond b (Some line) None) parts.1 in
    let same : find names_length (ls ++ line ∷ []) ≡ Some line = find-append names_length ls (line ∷ []) ∙ ap (λ o. option_or o (find names_length (line ∷ []))) absent ∙ here in
    record {
      cut = list_all-append is_open ls (line ∷ []) ∙ and_from _ _ good.cut (and_from _ _ uncut refl);
      filled = list_any-append is_empty ls (line ∷ []) ∙ or_from _ _ good.filled (or_from _ _ filled refl);
      good = before_bad-push [] ls line good.good ∙ ap (λ b. if b then None else Some ls) fits;
      gives = ap (option_and_then length_in) same ∙ parts.2;
      named = list_any-append names_length ls (line ∷ []) ∙ ap (λ b. list_any names_length ls || (b || false)) parts.1 ∙ or_yes (list_any names_length ls);
    }
  where
    or_yes : (b : Bool) → (b || true) ≡ true
    or_yes true = refl
    or_yes false = refl

    not_found : (p : List ℕ → Bool) (ls : List (List ℕ)) → list_any p ls ≡ false → find p ls ≡ None
    not_found p [] h = refl
    not_found p (l ∷ ls) h = not_found_step (p l) l (list_any p ls) (find p ls) (not_found p ls) h
      where
        not_found_step : (b : Bool) (l : List ℕ) (any : Bool) (o : Option (List ℕ)) → (any ≡ false → o ≡ None) → (b || any) ≡ false → cond b (Some l) o ≡ None
        not_found_step true l any o next h = cc
        not_found_step false l any o next h = next h

within_step : (b : Bool) (start line : ℕ) (header : List ℕ) (given : Option ℕ) (before : List (List ℕ)) (tail : List ℕ) → b ≡ (length header == LONGEST_HEADER_PART) → AreGood before given → header ≡ joined before ++ tail → line ≡ length (joined before)
    → is_open tail ≡ true → length header ≤ LONGEST_HEADER_PART → IsAt (if b then stage.Failed (BadHeader start) else stage.Header line given) start header []
within_step true start line header given before tail test good is line_is uncut h =
    (refl, says_too_long start header before given tail good is uncut (grind (arith, nat_tests)))
within_step false start line header given before tail test good is line_is uncut h =
    let rest : drop line header ≡ tail = ap (λ n. drop n header) line_is ∙ ap (drop (length (joined before))) is ∙ drop-append_seam (joined before) tail in
    (refl, record { before = before; good = good; line_is = line_is; bytes = is ∙ ap (λ bs. joined before ++ bs) (sym rest) }, ap is_open rest ∙ uncut, grind (arith, nat_tests))

-- in a header part that has not ended
pub at_within : (start line : ℕ) (header : List ℕ) (given : Option ℕ) (before : List (List ℕ)) (tail : List ℕ) → AreGood before given → header ≡ joined before ++ tail → line ≡ length (joined before)
    → is_open tail ≡ true → length header ≤ LONGEST_HEADER_PART → IsAt (stage_within start (length header) line given) start header []
at_within start line header given before tail good is line_is uncut h = within_step (length header == LONGEST_HEADER_PART) start line header given before tail refl good is line_is uncut h

behind_step : (long none : Bool) (start n : ℕ) (header : List ℕ) → long ≡ nat_lt LONGEST_BODY n → none ≡ (n == 0) → HeaderSays start header (if long then faulty (TooLong n) else whole (length header) n)
    → IsAt (if long then stage.Failed (TooLong n) else if none then stage.Whole else stage.Content n) start header []
behind_step true none start n header e f says = (refl, says)
behind_step false true start n header e f says = let zero_is : n ≡ 0 = grind (arith, nat_tests) in subst (λ m. HeaderSays start header (whole (length header) m)) zero_is says
behind_step false false start n header e f says = (subst (λ m. HeaderSays start header (whole (length header) m)) (sym (zero-add n)) says, grind (arith, nat_tests))

-- behind a header part that has ended
pub at_behind : (start : ℕ) (header : List ℕ) (given : Option ℕ) (before : List (List ℕ)) → AreGood before given → header ≡ joined before ++ line_end → length header ≤ LONGEST_HEADER_PART → IsAt (stage_behind start given) start header []
at_behind start header None before good is h = (refl, says_ended start header before None good is h)
at_behind start header (Some n) before good is h = behind_step (nat_lt LONGEST_BODY n) (n == 0) start n header refl refl (says_ended start header before (Some n) good is h)

joined-push : (ls : List (List ℕ)) (line : List ℕ) → joined (ls ++ line ∷ []) ≡ joined ls ++ line ++ line_end
joined-push [] line = append-nil (line ++ line_end)
joined-push (l ∷ ls) line = ap (λ bs. (l ++ line_end) ++ bs) (joined-push ls line) ∙ simp append_assoc

-- behind a line that is not empty
pub at_after : (start line : ℕ) (header : List ℕ) (given : Option ℕ) (before : List (List ℕ)) (text : List ℕ) → AreGood before given → header ≡ joined before ++ text ++ line_end → line ≡ length (joined before)
    → is_open text ≡ true → is_empty text ≡ false → length header ≤ LONGEST_HEADER_PART → IsAt (stage_after start (length header) line (field_of text) given) start header []
at_after start line header given before text good is line_is uncut filled h = after_step (field_of text) refl given good
  where
    whole_line : header ≡ joined (before ++ text ∷ []) ++ []
    whole_line = is ∙ sym (joined-push before text) ∙ sym (append-nil (joined (before ++ text ∷ [])))

    size : length header ≡ length (joined (before ++ text ∷ []))
    size = ap length (is ∙ sym (joined-push before text))

    failed : (given : Option ℕ) → AreGood before given → is_good before text ≡ false → IsAt (stage.Failed (BadHeader (start + line))) start header []
    failed given good bad = (refl, subst (λ n. HeaderSays start header (faulty (BadHeader (start + n)))) (sym line_is) (says_bad start header before given text good is h uncut filled bad))

    second : (n m : ℕ) → field_of text ≡ Length n → list_any names_length before ≡ true → is_good before text ≡ false
    second n m e named = let parts = length_is (is_field text) (names_length text) (length_in text) n e in rw (parts.0, parts.1, parts.2, named) refl

    after_step : (f : Field) → field_of text ≡ f → (given : Option ℕ) → AreGood before given → IsAt (stage_after start (length header) line f given) start header []
    after_step Other e given good = at_within start (length header) header given (before ++ text ∷ []) [] (good-other before given text good uncut filled e) whole_line size refl h
    after_step (Length n) e None good = at_within start (length header) header (Some n) (before ++ text ∷ []) [] (good-length before n text good uncut filled e) whole_line size refl h
    after_step (Length n) e (Some m) good = failed (Some m) good (second n m e good.named)
    after_step Bad e given good = failed given good (bad_is (is_field text) (names_length text) (length_in text) (list_any names_length before) e)
