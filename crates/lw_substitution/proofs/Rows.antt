-- Tokens one behind the other between two places, and those of them that span a part of the text.
use Rattle.std.proofs.Common.{◌≡◌, ◌≢◌, ◌<◌, ◌≤◌, ℕ, Bool, true, false, List, [], ◌∷◌, ◌++◌, cond, not, length, refl, sym, ap, ap₂, subst, arith}
use Rattle.lw_base.specs.declared.token.Span.{Span}
use Rattle.lw_base.specs.declared.token.Token.{Token}
use Rattle.lw_reading.specs.Brackets.{end_of, span_of_tokens}
use Rattle.lw_reading.specs.Within.{StandInRow}
use Rattle.lw_reading.specs.Within as within
use Rattle.lw_reading.proofs.Listed.{same_head, same_tail}
use Rattle.lw_tokens.specs.Cut.{visible}

-- tokens of a byte at least, one behind the other, none before the one place and none behind the other
abbrev pub Between : ℕ → ℕ → List Token → Type 0
Between from to [] = from ≤ to
Between from to (t ∷ ts) = (from ≤ t.span.start) × (t.span.start < t.span.end) × Between t.span.end to ts

-- and side by side, from the one place to the other
abbrev pub Tiled : ℕ → ℕ → List Token → Type 0
Tiled from to [] = from ≡ to
Tiled from to (t ∷ ts) = (t.span.start ≡ from) × (from < t.span.end) × Tiled t.span.end to ts

-- ---- side by side

pub tiled_both : (from at to : ℕ) (ts us : List Token) → Tiled from at ts → Tiled at to us → Tiled from to (ts ++ us)
tiled_both from at to [] us first others = subst (λ (k : ℕ). Tiled k to us) (sym first) others
tiled_both from at to (t ∷ ts) us first others = (first.0, first.1, tiled_both t.span.end at to ts us first.2 others)

pub tiled_behind : (from at to : ℕ) (ts us : List Token) → Tiled from at ts → Tiled from to (ts ++ us) → Tiled at to us
tiled_behind from at to [] us first all = subst (λ (k : ℕ). Tiled k to us) first all
tiled_behind from at to (t ∷ ts) us first all = tiled_behind t.span.end at to ts us first.2 all.2

pub tiled_between : (from to : ℕ) (ts : List Token) → Tiled from to ts → Between from to ts
tiled_between from to [] is = omega (arith, is)
tiled_between from to (t ∷ ts) is = (omega (arith, is.0), omega (arith, is.0, is.1), tiled_between t.span.end to ts is.2)

-- ---- one behind the other

between_low : (from to : ℕ) (ts : List Token) → Between from to ts → from ≤ to
between_low from to [] is = is
between_low from to (t ∷ ts) is = omega (arith, is.0, is.1, between_low t.span.end to ts is.2)

between_earlier : (before from to : ℕ) (ts : List Token) → before ≤ from → Between from to ts → Between before to ts
between_earlier before from to [] low is = omega (arith, low, is)
between_earlier before from to (t ∷ ts) low is = (omega (arith, low, is.0), is.1, is.2)

between_later : (from to later : ℕ) (ts : List Token) → to ≤ later → Between from to ts → Between from later ts
between_later from to later [] high is = omega (arith, high, is)
between_later from to later (t ∷ ts) high is = (is.0, is.1, between_later t.span.end to later ts high is.2)

between_both : (from at to : ℕ) (ts us : List Token) → Between from at ts → Between at to us → Between from to (ts ++ us)
between_both from at to [] us first others = between_earlier from at to us first others
between_both from at to (t ∷ ts) us first others = (first.0, first.1, between_both t.span.end at to ts us first.2 others)

between_parts : (from to : ℕ) (ts us : List Token) → Between from to (ts ++ us) → (at : ℕ) × Between from at ts × Between at to us
between_parts from to [] us is = (from, omega arith, is)
between_parts from to (t ∷ ts) us is =
    let (at, first, others) = between_parts t.span.end to ts us is.2 in (at, (is.0, is.1, first), others)

pub between_visible : (from to : ℕ) (ts : List Token) → Between from to ts → Between from to (visible ts)
between_visible from to [] is = is
between_visible from to (t ∷ ts) is = by t.hidden (between_visible t.span.end to ts is.2)
  where
    by : (b : Bool) → Between t.span.end to (visible ts) → Between from to (cond (not b) (t ∷ visible ts) (visible ts))
    by true rest = between_earlier from t.span.end to (visible ts) (omega (arith, is.0, is.1)) rest
    by false rest = (is.0, is.1, rest)

-- where there is no room there is no token
pub no_room : (from to : ℕ) (ts : List Token) → to ≤ from → Between from to ts → ts ≡ []
no_room from to [] none is = refl
no_room from to (t ∷ ts) none is = absurd (omega (arith, none, is.0, is.1, between_low t.span.end to ts is.2))

pub row_of : (text : List ℕ) (from to : ℕ) (ts : List Token) → to ≤ length text → Between from to ts → StandInRow text from ts
row_of text from to [] short is = within.none
row_of text from to (t ∷ ts) short is =
    within.more is.0 (omega (arith, is.1), omega (arith, short, between_low t.span.end to ts is.2)) (row_of text t.span.end to ts short is.2)

-- ---- a row is parted at a place in one way

no_more : {X : Type 0} {x : X} {xs : List X} → [] ≡ x ∷ xs → ⊥
no_more e = cc

one_split : (from at to low high : ℕ) (xs ys us vs : List Token) → Between from at xs → Between at to ys → Between low at us → Between at high vs →
    xs ++ ys ≡ us ++ vs → (xs ≡ us) × (ys ≡ vs)
one_split from at to low high [] ys [] vs first others front rest same = (refl, same)
one_split from at to low high [] [] (u ∷ us) vs first others front rest same = absurd (no_more same)
one_split from at to low high [] (y ∷ ys) (u ∷ us) vs first others front rest same =
    absurd (omega (arith, others.0, front.1, between_low u.span.end at us front.2, ap (λ (t : Token). t.span.start) (same_head same)))
one_split from at to low high (x ∷ xs) ys [] [] first others front rest same = absurd (no_more (sym same))
one_split from at to low high (x ∷ xs) ys [] (v ∷ vs) first others front rest same =
    absurd (omega (arith, rest.0, first.1, between_low x.span.end at xs first.2, ap (λ (t : Token). t.span.start) (same_head same)))
one_split from at to low high (x ∷ xs) ys (u ∷ us) vs first others front rest same =
    let both = one_split x.span.end at to u.span.end high xs ys us vs first.2 others front.2 rest (same_tail same) in
    (ap₂ (λ (t : Token) (ts : List Token). t ∷ ts) (same_head same) both.0, both.1)

-- ---- the tokens that span a part of it

ends_in : (to : ℕ) (t : Token) (ts : List Token) → Between t.span.end to ts →
    (t.span.end ≤ end_of t ts) × (end_of t ts ≤ to) × Between t.span.end (end_of t ts) ts
ends_in to t [] is = (omega arith, is, omega arith)
ends_in to t (u ∷ us) is = let (low, high, row) = ends_in to u us is.2 in (omega (arith, is.0, is.1, low), high, (is.0, is.1, row))

-- some tokens of a row that is parted at two places, from the one to the other, are those between the two
pub the_tokens_between : (start end to : ℕ) (front mid rest ts us vs : List Token) → Between 0 start front → Between start end mid → Between end to rest →
    front ++ mid ++ rest ≡ ts ++ us ++ vs → us ≢ [] → span_of_tokens us ≡ record { start = start; end = end } → (ts ≡ front) × (us ≡ mid) × (vs ≡ rest)
the_tokens_between start end to front mid rest ts [] vs before within behind same some spans = absurd (some refl)
the_tokens_between start end to front mid rest ts (u ∷ us) vs before within behind same some spans =
    let starts : u.span.start ≡ start = ap (λ (s : Span). s.start) spans in
    let ends : end_of u us ≡ end = ap (λ (s : Span). s.end) spans in
    let up_to : Between 0 end (front ++ mid) = between_both 0 start end front mid before within in
    let all : Between 0 to (ts ++ u ∷ us ++ vs) = subst (λ (xs : List Token). Between 0 to xs) same (between_both 0 end to (front ++ mid) rest up_to behind) in
    let (high, first, last) = between_parts 0 to (ts ++ u ∷ us) vs all in
    let (low, head, middle) = between_parts 0 high ts (u ∷ us) first in
    let (later, inside, row) = ends_in high u us middle.2 in
    let head_row : Between 0 start ts = between_later 0 low start ts (omega (arith, middle.0, starts)) head in
    let middle_row : Between start end (u ∷ us) =
    (omega (arith, starts), middle.1, subst (λ (k : ℕ). Between u.span.end k us) ends row) in
    let last_row : Between end to vs = between_earlier end high to vs (omega (arith, inside, ends)) last in
    let outer =
    one_split 0 end to 0 to (ts ++ u ∷ us) vs (front ++ mid) rest (between_both 0 start end ts (u ∷ us) head_row middle_row) last_row up_to behind (sym same) in
    let inner = one_split 0 start end 0 end ts (u ∷ us) front mid head_row middle_row before within outer.0 in
    (inner.0, inner.1, outer.1)
