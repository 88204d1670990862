-- Where bytes are cut into lines.
use Rattle.std.proofs.Common.{◌≡◌, ◌∙◌, ◌≤◌, ◌+◌, ℕ, List, [], ◌∷◌, ◌++◌, length, take, drop, nat_eq, Bool, true, false, not, if◌then◌else◌, refl, sym, ap, arith, subst, Option, append_assoc, length-append, ◌≢◌}
use Rattle.std.proofs.Math.Seq.{take-append_seam}
use Rattle.std.proofs.lemmas.List.{drop-append-le}
use Rattle.std.proofs.lemmas.Slice.Eq.{bytes_eq-Decides}
use Rattle.std.proofs.lemmas.Bool.Decides.{nat_tests}
use Rattle.std.specs.List.{starts_with, onto_first, list_all, list_any}
use Rattle.lw_frame.specs.Stage.{is_open, IsGrown, IsAt}
use Rattle.lw_frame.specs.Reading.{is_newline, IsThroughNewline}
use Rattle.lw_frame.specs.declared.stage.Stage.{Stage}
use Rattle.lw_frame.specs.declared.stage.Stage.TheVariants as stage
use Rattle.lw_frame.specs.Lines.{line_end, cut_first, parts, front, lines, joined}
use Rattle.std.proofs.lemmas.Bool.{and_parts, and_from, or_parts, not_from_false, false_from_ne_true}

cut_one : (test : Bool) (part : List ℕ) (others : List (List ℕ)) → (first : List ℕ) × (rest : List (List ℕ)) × ((if test then [] ∷ drop 2 part ∷ others else part ∷ others) ≡ first ∷ rest)
cut_one true part others = ([], drop 2 part ∷ others, refl)
cut_one false part others = (part, others, refl)

-- there is a first part
pub parts-nonempty : (bytes : List ℕ) → (first : List ℕ) × (others : List (List ℕ)) × (parts bytes ≡ first ∷ others)
parts-nonempty [] = ([], [], refl)
parts-nonempty (b ∷ bytes) =
    let ps = parts-nonempty bytes in
    let cut = cut_one (starts_with nat_eq (b ∷ ps.0) line_end) (b ∷ ps.0) ps.1 in
    (cut.0, cut.1, ap (λ qs. cut_first (onto_first b qs)) ps.2 ∙ cut.2)

uncut : (test : Bool) (part : List ℕ) (others : List (List ℕ)) → not test ≡ true → (if test then [] ∷ drop 2 part ∷ others else part ∷ others) ≡ part ∷ others
uncut true part others h = cc
uncut false part others h = refl

-- open bytes are one part
pub parts-open : (bytes : List ℕ) → is_open bytes ≡ true → parts bytes ≡ bytes ∷ []
parts-open [] h = refl
parts-open (b ∷ bytes) h =
    let test = and_parts (not (starts_with nat_eq (b ∷ bytes) line_end)) (is_open bytes) h in
    ap (λ qs. cut_first (onto_first b qs)) (parts-open bytes test.1) ∙ uncut (starts_with nat_eq (b ∷ bytes) line_end) (b ∷ bytes) [] test.0

-- an open line, its end, and what follows
parts-line : (line more : List ℕ) → is_open line ≡ true → parts (line ++ (13 ∷ 10 ∷ more)) ≡ line ∷ parts more
parts-line [] more h =
    let ps = parts-nonempty more in
    ap (λ qs. cut_first (onto_first 13 (cut_first (onto_first 10 qs)))) ps.2 ∙ ap (λ qs. [] ∷ qs) (sym ps.2)
parts-line (b ∷ line) more h =
    let test = and_parts (not (starts_with nat_eq (b ∷ line) line_end)) (is_open line) h in
    ap (λ qs. cut_first (onto_first b qs)) (parts-line line more test.1) ∙ uncut (starts_with nat_eq (b ∷ line) line_end) (b ∷ line) (parts more) test.0

-- open lines, and what follows them
pub parts-joined : (ls : List (List ℕ)) (more : List ℕ) → list_all is_open ls ≡ true → parts (joined ls ++ more) ≡ ls ++ parts more
parts-joined [] more h = refl
parts-joined (line ∷ ls) more h =
    let test = and_parts (is_open line) (list_all is_open ls) h in
    let grouped : (line ++ line_end) ++ joined ls ++ more ≡ line ++ (13 ∷ 10 ∷ (joined ls ++ more)) = append_assoc (line ++ line_end) (joined ls) more ∙ append_assoc line line_end (joined ls ++ more) in
    ap parts grouped ∙ parts-line line (joined ls ++ more) test.0 ∙ ap (λ qs. line ∷ qs) (parts-joined ls more test.1)

front-append : (ls : List (List ℕ)) (first : List ℕ) (others : List (List ℕ)) → front (ls ++ first ∷ others) ≡ ls ++ front (first ∷ others)
front-append [] first others = refl
front-append (l ∷ []) first others = refl
front-append (l ∷ m ∷ ls) first others = ap (λ qs. l ∷ qs) (front-append (m ∷ ls) first others)

pub lines-joined : (ls : List (List ℕ)) (more : List ℕ) → list_all is_open ls ≡ true → lines (joined ls ++ more) ≡ ls ++ lines more
lines-joined ls more h =
    let ps = parts-nonempty more in
    ap front (parts-joined ls more h ∙ ap (λ qs. ls ++ qs) ps.2) ∙ front-append ls ps.0 ps.1 ∙ ap (λ qs. ls ++ front qs) (sym ps.2)

pub lines-line : (line more : List ℕ) → is_open line ≡ true → lines (line ++ (13 ∷ 10 ∷ more)) ≡ line ∷ lines more
lines-line line more h =
    let ps = parts-nonempty more in
    ap front (parts-line line more h ∙ ap (λ qs. line ∷ qs) ps.2) ∙ ap (λ qs. line ∷ front qs) (sym ps.2)

pub lines-open : (bytes : List ℕ) → is_open bytes ≡ true → lines bytes ≡ []
lines-open bytes h = ap front (parts-open bytes h)

open_two : (a b : ℕ) (bytes : List ℕ) → is_newline b ≡ false → not (starts_with nat_eq (a ∷ b ∷ bytes) line_end) ≡ true
open_two a b bytes h = grind (arith, nat_tests)

pub open_one : (a : ℕ) → not (starts_with nat_eq (a ∷ []) line_end) ≡ true
open_one a = grind (arith, nat_tests)

-- bytes with no newline are open
open_without_newline : (bytes : List ℕ) → list_any is_newline bytes ≡ false → is_open bytes ≡ true
open_without_newline [] h = refl
open_without_newline (a ∷ []) h = and_from _ _ (open_one a) refl
open_without_newline (a ∷ b ∷ bytes) h =
    let rest = (or_parts (is_newline a) (list_any is_newline (b ∷ bytes)) h).1 in
    and_from _ _ (open_two a b bytes (or_parts (is_newline b) (list_any is_newline bytes) rest).0) (open_without_newline (b ∷ bytes) rest)

-- and stay so behind open ones
pub is_open-append : (bytes more : List ℕ) → is_open bytes ≡ true → list_any is_newline more ≡ false → is_open (bytes ++ more) ≡ true
is_open-append [] more h k = open_without_newline more k
is_open-append (a ∷ []) [] h k = h
is_open-append (a ∷ []) (b ∷ more) h k =
    and_from _ _ (open_two a b more (or_parts (is_newline b) (list_any is_newline more) k).0) (open_without_newline (b ∷ more) k)
is_open-append (a ∷ b ∷ bytes) more h k =
    let test = and_parts (not (starts_with nat_eq (a ∷ b ∷ bytes) line_end)) (is_open (b ∷ bytes)) h in
    and_from _ _ test.0 (is_open-append (b ∷ bytes) more test.1 k)

-- the front of open bytes is open
pub is_open-front : (bytes more : List ℕ) → is_open (bytes ++ more) ≡ true → is_open bytes ≡ true
is_open-front [] more h = refl
is_open-front (a ∷ []) more h = and_from _ _ (open_one a) refl
is_open-front (a ∷ b ∷ bytes) more h =
    let test = and_parts (not (starts_with nat_eq (a ∷ b ∷ (bytes ++ more)) line_end)) (is_open (b ∷ (bytes ++ more))) h in
    and_from _ _ test.0 (is_open-front (b ∷ bytes) more test.1)

-- one more byte leaves them open, where no line end stands at the end
is_open-push : (bytes : List ℕ) (b : ℕ) → is_open bytes ≡ true → ((before : List ℕ) → bytes ++ b ∷ [] ≢ before ++ line_end) → is_open (bytes ++ b ∷ []) ≡ true
is_open-push [] b h k = and_from _ _ (open_one b) refl
is_open-push (a ∷ []) b h k = and_from _ _ (not_from_false _ (false_from_ne_true _ (λ t. k [] (sym ((bytes_eq-Decides line_end (a ∷ b ∷ [])).0 t))))) (and_from _ _ (open_one b) refl)
is_open-push (a ∷ c ∷ bytes) b h k =
    let test = and_parts (not (starts_with nat_eq (a ∷ c ∷ bytes) line_end)) (is_open (c ∷ bytes)) h in
    and_from _ _ test.0 (is_open-push (c ∷ bytes) b test.1 (λ before e. k (a ∷ before) (ap (λ bs. a ∷ bs) e)))

same_front : (xs ys : List ℕ) (a b : ℕ) → xs ++ a ∷ [] ≡ ys ++ b ∷ [] → xs ≡ ys
same_front xs ys a b e =
    let size : length xs ≡ length ys = omega (arith, simp length-append at (ap length e)) in
    sym (take-append_seam xs (a ∷ [])) ∙ ap (take (length xs)) e ∙ ap (λ n. take n (ys ++ b ∷ [])) size ∙ take-append_seam ys (b ∷ [])

-- a current line that has grown, where it has not ended
pub open_current : (current : List ℕ) → IsGrown current → ((before : List ℕ) → current ≢ before ++ line_end) → is_open current ≡ true
open_current current (earlier, last, is, uncut) h = ap is_open is ∙ is_open-push earlier last uncut (λ before e. h before (is ∙ e))

-- and where it has
pub ended_current : (current text : List ℕ) → IsGrown current → current ≡ text ++ line_end → is_open text ≡ true
ended_current current text (earlier, last, is, uncut) e =
    let front_is : earlier ≡ text ++ 13 ∷ [] = same_front earlier (text ++ 13 ∷ []) last 10 (sym is ∙ e ∙ sym (append_assoc text (13 ∷ []) (10 ∷ []))) in
    is_open-front text (13 ∷ []) (ap is_open (sym front_is) ∙ uncut)

-- a header part that grows by bytes with no newline but for one at their end
pub grown : (s : Stage) (start line : ℕ) (given : Option ℕ) (header body piece near new : List ℕ) → s ≡ stage.Header line given → IsAt s start header body → IsThroughNewline piece near → new ≡ header ++ near → IsGrown (drop line new)
grown s start line given header body piece near new s_is at through is =
    let here : IsAt (stage.Header line given) start header body = subst (λ t. IsAt t start header body) s_is at in
    let size : length header ≡ length (joined here.1.before) + length (drop line header) = ap length here.1.bytes ∙ length-append (joined here.1.before) (drop line header) in
    let inside : line ≤ length header = let line_is = here.1.line_is in omega arith in
    let current : drop line new ≡ (drop line header ++ through.earlier) ++ through.last ∷ [] =
    ap (drop line) is ∙ drop-append-le line header near inside ∙ ap (λ bs. drop line header ++ bs) through.is ∙ sym (append_assoc (drop line header) through.earlier (through.last ∷ [])) in
    (drop line header ++ through.earlier, through.last, current, is_open-append (drop line header) through.earlier here.2 through.none)
