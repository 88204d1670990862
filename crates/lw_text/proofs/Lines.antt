-- The cut of a text into lines: there is one, there is only one, and its lines joined_lines are the text.
use Rattle.std.proofs.Common.{◌≡◌, ◌≢◌, ℕ, ◌<◌, ◌⊎◌, inl, inr, ⊎_elim, List, [], ◌∷◌, ◌++◌, All, refl, sym, ap, ap₂, ◌∙◌, subst, append_assoc, append-nil, length, arith}
use Rattle.std.proofs.lemmas.Bool.{cases_eq}
use Rattle.std.proofs.lemmas.List.Elements.{All-head, All-tail, All-nil, All-cons, All-append}
use Rattle.lw_text.specs.Starts.{IsBreakOrOver}
use Rattle.lw_text.specs.Lines.{IsNoBreak, Line, IsEnding, line_feed, both, carriage_return, AreLines, last, next, joined_lines}

-- ---- the lines joined_lines
pub AreLines-joined : {text : List ℕ} {lines : List Line} → AreLines text lines → text ≡ joined_lines lines
AreLines-joined (last {content} _) = sym (append-nil (content ++ []) ∙ append-nil content)
AreLines-joined (next {content} {ending} _ _ rest) = ap (λ bytes. content ++ ending ++ bytes) (AreLines-joined rest)

-- lines among which one stands are not none
pub not_none : (before : List Line) (line : Line) (after : List Line) → [] ≢ before ++ line ∷ after
not_none [] line after e = cc
not_none (first ∷ before) line after e = cc

-- ---- at most one cut
pub IsBreakOrOver-ending : {rest ending : List ℕ} (bytes : List ℕ) → IsEnding rest ending → IsBreakOrOver (ending ++ bytes)
IsBreakOrOver-ending bytes line_feed = inr refl
IsBreakOrOver-ending bytes both = inl refl
IsBreakOrOver-ending bytes (carriage_return _) = inl refl

not_break : (c : ℕ) → IsNoBreak c → ¬ ((c ≡ 13) ⊎ (c ≡ 10))
not_break c none (inl e) = none.0 e
not_break c none (inr e) = none.1 e

-- what stands in a line is what comes before the first break
pub same_content : (xs ys r s : List ℕ) → All IsNoBreak xs → All IsNoBreak ys → IsBreakOrOver r → IsBreakOrOver s → xs ++ r ≡ ys ++ s → (xs ≡ ys) × (r ≡ s)
same_content [] [] r s _ _ _ _ e = (refl, e)
same_content [] (y ∷ ys) r s _ none at _ e = absurd (not_break y (All-head IsNoBreak y ys none) (subst IsBreakOrOver e at))
same_content (x ∷ xs) [] r s none _ _ at e = absurd (not_break x (All-head IsNoBreak x xs none) (subst IsBreakOrOver (sym e) at))
same_content (x ∷ xs) (y ∷ ys) r s a b at bt e =
    let tails : xs ++ r ≡ ys ++ s = cc in
    let same = same_content xs ys r s (All-tail IsNoBreak x xs a) (All-tail IsNoBreak y ys b) at bt tails in
    let heads : x ≡ y = cc in
    let whole : x ∷ xs ≡ y ∷ ys = cc in
    (whole, same.1)

-- what ends the line follows from what the text goes on with
same_ending : {r s d e : List ℕ} → IsEnding r d → IsEnding s e → d ++ r ≡ e ++ s → (d ≡ e) × (r ≡ s)
same_ending line_feed line_feed h = (refl, cc)
same_ending line_feed both h = cc
same_ending line_feed (carriage_return _) h = cc
same_ending both line_feed h = cc
same_ending both both h = (refl, cc)
same_ending {r} both (carriage_return none) h = absurd (none r cc)
same_ending (carriage_return _) line_feed h = cc
same_ending {r} {s} (carriage_return none) both h = absurd (none s cc)
same_ending (carriage_return _) (carriage_return _) h = (refl, cc)

-- what ends a line has a byte at least
pub some_ending : {rest ending : List ℕ} → IsEnding rest ending → 0 < length ending
some_ending line_feed = omega arith
some_ending both = omega arith
some_ending (carriage_return _) = omega arith

ending_not_over : {rest ending : List ℕ} (bytes : List ℕ) → IsEnding rest ending → [] ≢ ending ++ bytes
ending_not_over bytes line_feed e = cc
ending_not_over bytes both e = cc
ending_not_over bytes (carriage_return _) e = cc

-- a text with no break has one line
one_line : (content other ending rest : List ℕ) {after : List ℕ} → All IsNoBreak content → All IsNoBreak other → IsEnding after ending → content ≢ other ++ ending ++ rest
one_line content other ending rest a b ends e =
    let same = same_content content other [] (ending ++ rest) a b tt (IsBreakOrOver-ending rest ends) (append-nil content ∙ e ∙ append_assoc other ending rest) in
    ending_not_over rest ends same.1

same_lines : {text other : List ℕ} {lines others : List Line} → AreLines text lines → AreLines other others → text ≡ other → lines ≡ others
same_lines (last a) (last b) e = ap (λ content. record { content = content; ending = [] } ∷ []) e
same_lines (last {content} a) (next {content = d} {ending} {rest} b ends more) e = absurd (one_line content d ending rest a b ends e)
same_lines (next {content} {ending} {rest} a ends more) (last {content = d} b) e = absurd (one_line d content ending rest b a ends (sym e))
same_lines (next {content = c} {ending = d} {rest = r} a ends more) (next {content = f} {ending = h} {rest = s} b ends' more') e =
    let first = same_content c f (d ++ r) (h ++ s) a b (IsBreakOrOver-ending r ends) (IsBreakOrOver-ending s ends') (sym (append_assoc c d r) ∙ e ∙ append_assoc f h s) in
    let second = same_ending ends ends' first.1 in
    let others = same_lines more more' second.1 in
    ap₂ (λ line lines. line ∷ lines) (ap₂ (λ content ending. record { content = content; ending = ending }) first.0 second.0) others

-- a text has one cut into lines
pub AreLines-only : {text : List ℕ} {lines others : List Line} → AreLines text lines → AreLines text others → lines ≡ others
AreLines-only a b = same_lines a b refl

-- ---- a cut
-- what comes before a text and has no break goes into its first line
abbrev pub lengthened : List ℕ → List Line → List Line
lengthened front [] = []
lengthened front (line ∷ lines) = record { content = front ++ line.content; ending = line.ending } ∷ lines

pub AreLines-lengthened : {text : List ℕ} {lines : List Line} (front : List ℕ) → All IsNoBreak front → AreLines text lines → AreLines (front ++ text) (lengthened front lines)
AreLines-lengthened front none (last {content} a) = last (All-append IsNoBreak front content none a)
AreLines-lengthened front none (next {content} {ending} {rest} {lines} a ends more) =
    let longer = next {content = front ++ content} (All-append IsNoBreak front content none a) ends more in
    let same : front ++ content ++ ending ++ rest ≡ front ++ (content ++ ending ++ rest) = simp append_assoc in
    subst (λ text. AreLines text (record { content = front ++ content; ending = ending } ∷ lines)) same longer

abbrev pub Cut : List ℕ → Type 0
Cut text = (lines : List Line) × AreLines text lines

begins_with : (c : ℕ) (text : List ℕ) → ((more : List ℕ) × (text ≡ c ∷ more)) ⊎ ((more : List ℕ) → text ≢ c ∷ more)
begins_with c [] = inr (λ more e. cc)
begins_with c (d ∷ rest) = ⊎_elim (λ e. inl (rest, ap (λ x. x ∷ rest) e)) (λ differs. inr (λ more e. differs cc)) (cases_eq d c)

cut_after_return : (rest : List ℕ) → Cut rest → ((more : List ℕ) → rest ≡ 10 ∷ more → Cut more) → Cut (13 ∷ rest)
cut_after_return rest cut behind =
    ⊎_elim
    (λ feed. let cut = behind feed.0 feed.1 in
    (_, subst (λ bytes. AreLines (13 ∷ bytes) (record { content = []; ending = 13 ∷ 10 ∷ [] } ∷ cut.0)) (sym feed.1) (next {content = []} (All-nil IsNoBreak) both cut.1)))
    (λ none. (_, next {content = []} {rest = rest} (All-nil IsNoBreak) (carriage_return none) cut.1))
    (begins_with 10 rest)

cut_step : (c : ℕ) (rest : List ℕ) → Cut rest → ((more : List ℕ) → rest ≡ 10 ∷ more → Cut more) → Cut (c ∷ rest)
cut_step c rest cut behind =
    ⊎_elim (λ return. subst (λ b. Cut (b ∷ rest)) (sym return) (cut_after_return rest cut behind))
    (λ no_return. ⊎_elim
    (λ feed. subst (λ b. Cut (b ∷ rest)) (sym feed) (_, next {content = []} {rest = rest} (All-nil IsNoBreak) line_feed cut.1))
    (λ no_feed. (_, AreLines-lengthened (c ∷ []) (All-cons IsNoBreak c [] (no_return, no_feed) (All-nil IsNoBreak)) cut.1))
    (cases_eq c 10))
    (cases_eq c 13)

-- with the cut of what follows the first byte
cut_twice : (text : List ℕ) → Cut text × ((c : ℕ) (more : List ℕ) → text ≡ c ∷ more → Cut more)
cut_twice [] = ((_, last (All-nil IsNoBreak)), λ c more e. absurd cc)
cut_twice (c ∷ rest) =
    let cuts = cut_twice rest in
    (cut_step c rest cuts.0 (cuts.1 10), λ d more e. let same : rest ≡ more = cc in subst Cut same cuts.0)

-- a text has a cut into lines
pub cut_of : (text : List ℕ) → Cut text
cut_of text = (cut_twice text).0
