-- A walk over a text from one line to the next.
use Rattle.std.proofs.Common.{◌≡◌, ◌≢◌, ℕ, ◌+◌, ◌-◌, ◌<◌, ◌≤◌, ◌⊎◌, inl, inr, ⊎_elim, Bool, ◌==◌, true, false, List, [], ◌∷◌, ◌++◌, length, get_or, take, drop, All, Option, Some, None, IfSome, IfNone, unwrap_or, refl, sym, ap, ap₂, ◌∙◌, subst, append_assoc, arith, length-append, length-drop, length-take-le, take-append-drop}
use Rattle.std.proofs.lemmas.Bool.{eqb-true, eqb-false, false≢true, or_cases, or_parts}
use Rattle.std.proofs.lemmas.Bool.Decides.{Decides-eqb}
use Rattle.std.proofs.lemmas.Slice.Eq.{starts_is}
use Rattle.std.specs.List.{starts_with}
use lib.Dec.{eqb}
use Rattle.std.proofs.lemmas.List.{drop-drop, drop_all, drop_more, get_or-drop, get_or-take}
use Rattle.std.proofs.lemmas.List.Elements.{All-from_get_or}
use Rattle.std.proofs.lemmas.List.Sums.{sum_by-cons, sum_by_push}
use Rattle.lw_lanes.specs.LineBreak.{is_break, IsLeastBreak, NoBreakBetween}
use Rattle.lw_text.specs.Lines.{IsNoBreak, Line, IsEnding, line_feed, both, carriage_return, AreLines, last, next, line_bytes, lines_bytes}
use Rattle.lw_text.specs.Position.{IsLineOf}
use Rattle.lw_text.specs.Starts.{AreStarts, IsBreakOrOver, IsLineEnd, IsNextLine, starts_from}
use Rattle.lw_text.proofs.Lines.{cut_of, some_ending}

-- ---- where a line ends
IsNoBreak-from_test : (c : ℕ) → is_break c ≡ false → IsNoBreak c
IsNoBreak-from_test c e = let parts = or_parts (c == 10) (c == 13) e in (eqb-false c 13 parts.1, eqb-false c 10 parts.0)

break_from_test : (c : ℕ) → is_break c ≡ true → (c ≡ 13) ⊎ (c ≡ 10)
break_from_test c e = ⊎_elim (λ feed. inr (eqb-true c 10 feed)) (λ return. inl (eqb-true c 13 return)) (or_cases (c == 10) (c == 13) e)

line_end_at : (text : List ℕ) (start end : ℕ) → start ≤ end → end ≤ length text → NoBreakBetween text start end → IsBreakOrOver (drop end text) → IsLineEnd text start end
line_end_at text start end after within none over =
    let content = take (end - start) (drop start text) in
    let room : end - start ≤ length (drop start text) = omega (arith, length-drop start text) in
    let size : length content ≡ end - start = length-take-le (end - start) (drop start text) room in
    let there : start + (end - start) ≡ end = omega arith in
    let rest : drop (end - start) (drop start text) ≡ drop end text = drop-drop (end - start) start text ∙ ap (λ n. drop n text) there in
    record {
      content = content;
      bare = All-from_get_or IsNoBreak content 0 (λ k below.
          let near : k < end - start = omega (arith, size) in
          let at : get_or content k 0 ≡ get_or text (start + k) 0 = get_or-take (end - start) (drop start text) k 0 near ∙ get_or-drop start text k 0 in
          IsNoBreak-from_test (get_or content k 0) (ap is_break at ∙ none (start + k) (omega arith) (omega arith)));
      parts = sym (take-append-drop (end - start) (drop start text)) ∙ ap (λ bytes. content ++ bytes) rest;
      far = omega (arith, size);
      over = over;
    }

-- by the first break from the start on
pub line_end_by : (text : List ℕ) (start : ℕ) (found : Option ℕ) → start ≤ length text → IfSome found (IsLeastBreak text start) → IfNone found (NoBreakBetween text start (length text)) → IsLineEnd text start (unwrap_or found (length text))
line_end_by text start None within some none =
    line_end_at text start (length text) within (omega arith) none (subst IsBreakOrOver (sym (drop_all (length text) text (omega arith))) tt)
line_end_by text start (Some end) within some none =
    let is = break_from_test (get_or text end 0) some.is_one in
    line_end_at text start end some.onwards (omega (arith, some.within)) some.least (subst IsBreakOrOver (sym (drop_more text end 0 some.within)) is)

-- ---- from one line to the next
pub next_line_by : (text : List ℕ) (start end : ℕ) (ending : List ℕ) → IsLineEnd text start end → drop end text ≡ ending ++ drop (end + length ending) text → IsEnding (drop (end + length ending) text) ending → IsNextLine text start (end + length ending)
next_line_by text start end ending e goes_on ends = record {
  content = e.content;
  ending = ending;
  bare = e.bare;
  ends = ends;
  parts = e.parts ∙ ap (λ bytes. e.content ++ bytes) goes_on ∙ sym (append_assoc e.content ending (drop (end + length ending) text));
  far = omega (arith, e.far);
}

-- the byte at `end` is all that ends the line
one_byte : (text : List ℕ) (start end : ℕ) (bytes : List ℕ) → IsLineEnd text start end → drop end text ≡ bytes → bytes ≢ [] → ((rest : List ℕ) → bytes ≢ (13 ∷ 10 ∷ []) ++ rest) → IsNextLine text start (end + 1)
one_byte text start end [] e is some none = absurd (some refl)
one_byte text start end (c ∷ rest) e is some none =
    let left : rest ≡ drop (end + 1) text = sym (ap (drop 1) is) ∙ drop-drop 1 end text in
    let goes_on : drop end text ≡ (c ∷ []) ++ drop (end + 1) text = is ∙ ap (λ bytes. c ∷ bytes) left in
    let break : IsBreakOrOver (c ∷ rest) = subst IsBreakOrOver is e.over in
    ⊎_elim
    (λ return. next_line_by text start end (13 ∷ []) e (goes_on ∙ ap (λ b. b ∷ drop (end + 1) text) return)
    (carriage_return (λ more h. none more (ap₂ (λ b bytes. b ∷ bytes) return (left ∙ h)))))
    (λ feed. next_line_by text start end (10 ∷ []) e (goes_on ∙ ap (λ b. b ∷ drop (end + 1) text) feed) line_feed)
    break

pub next_line_one : (text : List ℕ) (start end : ℕ) → IsLineEnd text start end → drop end text ≢ [] → ((rest : List ℕ) → drop end text ≢ (13 ∷ 10 ∷ []) ++ rest) → IsNextLine text start (end + 1)
next_line_one text start end e some none = one_byte text start end (drop end text) e refl some none

pub next_line_two : (text : List ℕ) (start end : ℕ) → IsLineEnd text start end → drop end text ≡ (13 ∷ 10 ∷ []) ++ drop 2 (drop end text) → IsNextLine text start (end + 2)
next_line_two text start end e is = next_line_by text start end (13 ∷ 10 ∷ []) e (is ∙ ap (λ bytes. (13 ∷ 10 ∷ []) ++ bytes) (drop-drop 2 end text)) both

pub IsNextLine-onwards : {text : List ℕ} {start end : ℕ} → IsNextLine text start end → start < end
IsNextLine-onwards n = omega (arith, n.far, some_ending n.ends)

pub IsNextLine-within : (text : List ℕ) (start end : ℕ) → start ≤ length text → IsNextLine text start end → end ≤ length text
IsNextLine-within text start end within n =
    let sizes : length (drop start text) ≡ length n.content + length n.ending + length (drop end text) = ap length n.parts ∙ length-append (n.content ++ n.ending) (drop end text) ∙ ap (λ k. k + length (drop end text)) (length-append n.content n.ending) in
    omega (arith, sizes, length-drop start text, n.far)

-- by whether the rest of the text begins with `\r\n`
pub next_line_test : (text : List ℕ) (start end : ℕ) (rest : List ℕ) (pair : Bool) → rest ≡ drop end text → IsLineEnd text start end → pair ≡ starts_with eqb rest (13 ∷ 10 ∷ []) →
    (pair ≡ true → IsNextLine text start (end + 2)) × (pair ≡ false → rest ≢ [] → IsNextLine text start (end + 1))
next_line_test text start end rest pair left e is =
    let says = starts_is Decides-eqb (drop end text) (13 ∷ 10 ∷ []) pair (is ∙ ap (λ bytes. starts_with eqb bytes (13 ∷ 10 ∷ [])) left) in
    (λ two. next_line_two text start end e (says.0 two), λ one some. next_line_one text start end e (λ over. some (left ∙ over)) (λ more h. false≢true (sym one ∙ says.1 more h)))

-- ---- the lines so far
-- these are the lines before the one that begins at `start`
pub record Reached (text : List ℕ) (start : ℕ) (before : List Line) : Type 0 where
  pub opens : (after : List Line) → AreLines (drop start text) after → AreLines text (before ++ after)
  pub begins : start ≡ lines_bytes before

abbrev pub line_to : {text : List ℕ} {start end : ℕ} → IsNextLine text start end → Line
line_to n = record { content = n.content; ending = n.ending }

cut_to : (text : List ℕ) (start end : ℕ) (n : IsNextLine text start end) (after : List Line) → AreLines (drop end text) after → AreLines (drop start text) (line_to n ∷ after)
cut_to text start end n after cut = subst (λ bytes. AreLines bytes (line_to n ∷ after)) (sym n.parts) (next n.bare n.ends cut)

pub Reached-next : (text : List ℕ) (start end : ℕ) (before : List Line) → Reached text start before → (n : IsNextLine text start end) → Reached text end (before ++ line_to n ∷ [])
Reached-next text start end before r n = record {
  opens = λ after cut. subst (λ lines. AreLines text lines) (sym (append_assoc before (line_to n ∷ []) after)) (r.opens (line_to n ∷ after) (cut_to text start end n after cut));
  begins = omega (arith, sum_by_push line_bytes before (line_to n), r.begins, n.far);
}

abbrev last_of : List ℕ → Line
last_of bytes = record { content = bytes; ending = [] }

-- the place is in the line that was reached, which is the last, or ends behind the place
pub in_last : (text : List ℕ) (start offset number : ℕ) (before : List Line) → Reached text start before → start ≤ offset → number ≡ length before → All IsNoBreak (drop start text) → IsLineOf text offset number start
in_last text start offset number before r from is bare = record {
  before = before;
  line = last_of (drop start text);
  after = [];
  cut = r.opens (last_of (drop start text) ∷ []) (last bare);
  begins = r.begins;
  inside = (from, inr refl);
  number = is;
}

pub in_line_to : (text : List ℕ) (start end offset number : ℕ) (before : List Line) → Reached text start before → start ≤ offset → offset < end → number ≡ length before → IsNextLine text start end → IsLineOf text offset number start
in_line_to text start end offset number before r from ahead is n =
    let cut = cut_of (drop end text) in
    record {
      before = before;
      line = line_to n;
      after = cut.0;
      cut = r.opens (line_to n ∷ cut.0) (cut_to text start end n cut.0 cut.1);
      begins = r.begins;
      inside = (from, inl (omega (arith, n.far)));
      number = is;
    }

-- ---- where the lines begin
pub starts_from-append : (base : ℕ) (before after : List Line) → starts_from base (before ++ after) ≡ starts_from base before ++ starts_from (base + lines_bytes before) after
starts_from-append base [] after = ap (λ n. starts_from n after) (omega arith)
starts_from-append base (line ∷ before) after =
    let far : base + line_bytes line + lines_bytes before ≡ base + lines_bytes (line ∷ before) = omega (arith, sum_by-cons line_bytes line before) in
    ap (λ starts. base ∷ starts) (starts_from-append (base + line_bytes line) before after ∙ ap (λ n. starts_from (base + line_bytes line) before ++ starts_from n after) far)

-- the lines before the one that begins at the last of these places
pub record Noted (text : List ℕ) (start : ℕ) (starts : List ℕ) : Type 0 where
  pub before : List Line
  pub reached : Reached text start before
  pub places : starts ≡ starts_from 0 before ++ start ∷ []

pub Noted-next : (text : List ℕ) (start end : ℕ) (starts : List ℕ) → Noted text start starts → IsNextLine text start end → Noted text end (starts ++ end ∷ [])
Noted-next text start end starts noted n =
    let begins : 0 + lines_bytes noted.before ≡ start = omega (arith, noted.reached.begins) in
    record {
      before = noted.before ++ line_to n ∷ [];
      reached = Reached-next text start end noted.before noted.reached n;
      places = ap (λ starts. starts ++ end ∷ []) (noted.places ∙ ap (λ n. starts_from 0 noted.before ++ n ∷ []) (sym begins) ∙ sym (starts_from-append 0 noted.before (line_to n ∷ [])));
    }

pub Noted-last : (text : List ℕ) (start : ℕ) (starts : List ℕ) → Noted text start starts → All IsNoBreak (drop start text) → AreStarts text starts
Noted-last text start starts noted bare =
    let begins : 0 + lines_bytes noted.before ≡ start = omega (arith, noted.reached.begins) in
    record {
      lines = noted.before ++ last_of (drop start text) ∷ [];
      cut = noted.reached.opens (last_of (drop start text) ∷ []) (last bare);
      places = noted.places ∙ ap (λ n. starts_from 0 noted.before ++ n ∷ []) (sym begins) ∙ sym (starts_from-append 0 noted.before (last_of (drop start text) ∷ []));
    }
