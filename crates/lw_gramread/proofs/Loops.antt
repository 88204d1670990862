-- Reading as many as there are, beside a loop that adds each to those before it.
use Rattle.std.proofs.Common.{◌≡◌, ℕ, zero, suc, ◌<◌, ◌≤◌, Bool, true, false, List, [], ◌∷◌, ◌++◌, length, drop, get_or, map, ◌-◌, Ok, Err, refl, sym, ap, ◌∙◌, append_assoc, append-nil, arith, cond}
use Rattle.lw_base.specs.declared.token.Span.{Span}
use Rattle.lw_gramread.specs.declared.lexeme.Lexeme.{Lexeme}
use Rattle.lw_gramread.specs.declared.reader.left.Stop.{Stop}
use Rattle.lw_gramread.specs.Steps.{Outcome, Reading, and_then, pure, gathered, all_of, behind, first_and, ◌>>◌, skip, one}
use Rattle.lw_gramread.specs.Spans.{across, last_of, covering}

-- what a step that may take a token leaves
pub after_yes : (b found : Bool) (ts next : List Lexeme) → found ≡ b → next ≡ cond b (drop 1 ts) ts → found ≡ true → (b ≡ true) × (next ≡ drop 1 ts)
after_yes b found ts next seen left on = let e : b ≡ true = sym seen ∙ on in (e, left ∙ ap (λ (k : Bool). cond k (drop 1 ts) ts) e)

pub after_no : (b found : Bool) (ts next : List Lexeme) → found ≡ b → next ≡ cond b (drop 1 ts) ts → found ≡ false → (b ≡ false) × (next ≡ ts)
after_no b found ts next seen left off = let e : b ≡ false = sym seen ∙ off in (e, left ∙ ap (λ (k : Bool). cond k (drop 1 ts) ts) e)

module _ {A : Type 0} (goes_on : List Lexeme → Bool) (item : Reading (List A)) where
  -- what is read in all is what was read so far and what is still read, in so many turns at most
  pub record Gathering (total : Outcome (List A)) (front : List A) (ts : List Lexeme) : Type 0 where
    pub turns : ℕ
    pub enough : length ts ≤ turns
    pub so_far : total ≡ behind front (gathered goes_on item turns) ts

  pub begins : (front : List A) (ts : List Lexeme) → Gathering (behind front (all_of goes_on item) ts) front ts
  unfolding all_of
  begins front ts = record { turns = length ts; enough = omega arith; so_far = refl }

  pub first_begins : (first : Reading A) (a : A) (front : List A) (ts mid : List Lexeme) → first ts ≡ Ok (a, mid) → front ≡ a ∷ [] →
      Gathering (first_and goes_on item first ts) front mid
  unfolding all_of
  first_begins first a front ts mid e f = record { turns = length mid; enough = omega arith; so_far = rw (e, f) refl }

  regroup : (front xs : List A) (read : Outcome (List A)) →
      and_then (and_then read (λ ys. pure (xs ++ ys))) (λ more. pure (front ++ more)) ≡ and_then read (λ more. pure ((front ++ xs) ++ more))
  regroup front xs (Ok p) = ap (λ (ys : List A). Ok (ys, p.1)) (sym (append_assoc front xs p.0))
  regroup front xs (Err e) = refl

  one_turn : (front xs : List A) (n : ℕ) (ts mid : List Lexeme) → goes_on ts ≡ true → item ts ≡ Ok (xs, mid) →
      behind front (gathered goes_on item (suc n)) ts ≡ behind (front ++ xs) (gathered goes_on item n) mid
  unfolding gathered
  one_turn front xs n ts mid on e = rw (on, e) (regroup front xs (gathered goes_on item n mid))

  some_left : (ts : List Lexeme) → goes_on [] ≡ false → goes_on ts ≡ true → 0 < length ts
  some_left [] empty on = absurd (cc (empty, on))
  some_left (t ∷ ts) empty on = omega arith

  pub goes : {total : Outcome (List A)} {front : List A} {ts : List Lexeme} (xs : List A) (mid : List Lexeme) → goes_on [] ≡ false → Gathering total front ts →
      goes_on ts ≡ true → item ts ≡ Ok (xs, mid) → length mid < length ts → Gathering total (front ++ xs) mid
  goes {total} {front} {ts} xs mid empty g on e less = from g.turns g.enough g.so_far
    where
      from : (n : ℕ) → length ts ≤ n → total ≡ behind front (gathered goes_on item n) ts → Gathering total (front ++ xs) mid
      from zero le h = absurd (omega (arith, some_left ts empty on))
      from (suc n) le h = record { turns = n; enough = omega arith; so_far = h ∙ one_turn front xs n ts mid on e }

  stops : (front : List A) (ts : List Lexeme) (n : ℕ) → goes_on ts ≡ false → behind front (gathered goes_on item n) ts ≡ Ok (front, ts)
  unfolding gathered
  stops front ts zero off = ap (λ (ys : List A). Ok (ys, ts)) (append-nil front)
  stops front ts (suc n) off = rw off (ap (λ (ys : List A). Ok (ys, ts)) (append-nil front))

  pub ends : {total : Outcome (List A)} {front : List A} {ts : List Lexeme} → Gathering total front ts → goes_on ts ≡ false → total ≡ Ok (front, ts)
  ends {front} {ts} g off = g.so_far ∙ stops front ts g.turns off

  broken : (front : List A) (ts : List Lexeme) (n : ℕ) (e : Stop × List Lexeme) → goes_on ts ≡ true → item ts ≡ Err e →
      behind front (gathered goes_on item (suc n)) ts ≡ Err e
  unfolding gathered
  broken front ts n e on h = rw (on, h) refl

  pub fails : {total : Outcome (List A)} {front : List A} {ts : List Lexeme} (e : Stop × List Lexeme) → goes_on [] ≡ false → Gathering total front ts →
      goes_on ts ≡ true → item ts ≡ Err e → total ≡ Err e
  fails {total} {front} {ts} e empty g on h = from g.turns g.enough g.so_far
    where
      from : (n : ℕ) → length ts ≤ n → total ≡ behind front (gathered goes_on item n) ts → total ≡ Err e
      from zero le k = absurd (omega (arith, some_left ts empty on))
      from (suc n) le k = k ∙ broken front ts n e on h

-- one item, read where the reader stands or behind a token that was taken
pub one_here : {A : Type 0} (item : Reading A) (ts : List Lexeme) (r : Outcome A) → item ts ≡ r → one item ts ≡ and_then r (λ x. pure (x ∷ []))
one_here {A} item ts r h = ap (λ (o : Outcome A). and_then o (λ x. pure (x ∷ []))) h

pub one_behind : {A : Type 0} (item : Reading A) (ts next : List Lexeme) (r : Outcome A) → next ≡ drop 1 ts → item next ≡ r →
    (skip >> one item) ts ≡ and_then r (λ x. pure (x ∷ []))
one_behind {A} item ts next r e h = ap (one item) (sym e) ∙ one_here item next r h

-- from the start of the first to the end of the last
mapped_last : {A : Type 0} (f : A → Span) (x : A) (xs : List A) (d : A) → last_of (f x) (map f xs) ≡ f (get_or (x ∷ xs) (length xs) d)
mapped_last f x [] d = refl
mapped_last f x (y ∷ xs) d = mapped_last f y xs d

pub over_ends : {A : Type 0} (f : A → Span) (xs : List A) (first last : A) → 1 ≤ length xs → first ≡ get_or xs 0 first → last ≡ get_or xs (length xs - 1) last →
    covering (map f xs) ≡ across (f first) (f last)
over_ends f [] first last some e h = absurd (omega arith)
over_ends {A} f (x ∷ xs) first last some e h =
    let n : length (x ∷ xs) - 1 ≡ length xs = omega arith in
    let l : last ≡ get_or (x ∷ xs) (length xs) last = h ∙ ap (λ (k : ℕ). get_or (x ∷ xs) k last) n in
    ap (λ (a : Span). across a (last_of (f x) (map f xs))) (ap f (sym e)) ∙ ap (λ (b : Span). across (f first) b) (mapped_last f x xs last ∙ ap f (sym l))
