-- A text begins with at most one string, whose end a scan from the left finds.
use Rattle.std.proofs.Math.Seq.{drop-cons}
use Rattle.std.proofs.Math.ListN.{drop_of_length-le}
use Rattle.std.proofs.Common.{◌≡◌, ◌≢◌, ◌⊎◌, ◌<◌, ◌≤◌, drop, get_or, ℕ, suc, ◌+◌, List, [], ◌∷◌, ◌++◌, length, Bool, true, false, Option, Some, None, refl, sym, ap, ◌∙◌, subst, inl, inr, arith, add-zero, if◌then◌else◌, ◌==◌}
use Rattle.std.proofs.lemmas.Bool.{eqb-true, eqb-false, eq-eqb, ne_eqb}
use Rattle.lw_gramlex.specs.FileTokens.{IsString, IsInside}

-- where the quote stands that closes the string, n bytes having been passed, and the last of them a backslash that is not itself behind one
abbrev pub inside_end : ℕ → ℕ → Bool → List ℕ → Option ℕ
inside_end q n e [] = None
inside_end q n true (c ∷ cs) = if c == 10 then None else inside_end q (n + 1) false cs
inside_end q n false (c ∷ cs) = if c == q then Some n else inside_end q (n + 1) (c == 92) cs

-- ---- a string is found

pub inside_end_finds : (q n : ℕ) (inside after : List ℕ) → q ≢ 92 → IsInside q inside → inside_end q n false (inside ++ q ∷ after) ≡ Some (n + length inside)
inside_end_finds q n _ after apart IsInside.done = rw (eq-eqb q q refl) (ap Some (sym (add-zero n)))
inside_end_finds q n _ after apart (IsInside.one {c = c} {cs = cs} not_quote not_backslash rest) =
    let longer : n + 1 + length cs ≡ n + suc (length cs) = omega arith in
    rw (ne_eqb c q not_quote, ne_eqb c 92 not_backslash) (inside_end_finds q (n + 1) cs after apart rest ∙ ap Some longer)
inside_end_finds q n _ after apart (IsInside.pair {c = c} {cs = cs} not_line_end rest) =
    let longer : n + 1 + 1 + length cs ≡ n + suc (suc (length cs)) = omega arith in
    rw (ne_eqb 92 q (λ e. apart (sym e)), ne_eqb c 10 not_line_end) (inside_end_finds q (n + 1 + 1) cs after apart rest ∙ ap Some longer)

-- ---- what is found is a string

-- the inside in a scan's state: behind a backslash it goes on the pair
abbrev pub WithState : ℕ → Bool → List ℕ → Type 0
WithState q true inside = IsInside q (92 ∷ inside)
WithState q false inside = IsInside q inside

pub record IsFound (q n : ℕ) (e : Bool) (cs : List ℕ) (m : ℕ) : Type 0 where
  pub inside : List ℕ
  pub after : List ℕ
  pub parts : cs ≡ inside ++ q ∷ after
  pub within : WithState q e inside
  pub bytes : m ≡ n + length inside

module _ (q n c : ℕ) (cs : List ℕ) (m : ℕ) where
  step_escaped : (inside_end q (n + 1) false cs ≡ Some m → IsFound q (n + 1) false cs m) → (b : Bool) → (c == 10) ≡ b →
      (if b then None else inside_end q (n + 1) false cs) ≡ Some m → IsFound q n true (c ∷ cs) m
  step_escaped later true is g = cc
  step_escaped later false is g =
      let f = later g in
      record { inside = c ∷ f.inside; after = f.after; parts = ap (λ x. c ∷ x) f.parts; within = IsInside.pair (eqb-false c 10 is) f.within; bytes = omega (arith, f.bytes) }

  longer : (e : Bool) → (c == 92) ≡ e → c ≢ q → (f : IsFound q (n + 1) e cs m) → IsInside q (c ∷ f.inside)
  longer true is apart f = rw (eqb-true c 92 is) f.within
  longer false is apart f = IsInside.one apart (eqb-false c 92 is) f.within

  step : (inside_end q (n + 1) (c == 92) cs ≡ Some m → IsFound q (n + 1) (c == 92) cs m) → (b : Bool) → (c == q) ≡ b →
      (if b then Some n else inside_end q (n + 1) (c == 92) cs) ≡ Some m → IsFound q n false (c ∷ cs) m
  step later true is g =
      let at : n ≡ m = cc in
      record { inside = []; after = cs; parts = ap (λ x. x ∷ cs) (eqb-true c q is); within = IsInside.done; bytes = omega (arith, at) }
  step later false is g =
      let f = later g in
      record { inside = c ∷ f.inside; after = f.after; parts = ap (λ x. c ∷ x) f.parts; within = longer (c == 92) refl (eqb-false c q is) f; bytes = omega (arith, f.bytes) }

pub inside_end_found : (q n : ℕ) (e : Bool) (cs : List ℕ) (m : ℕ) → inside_end q n e cs ≡ Some m → IsFound q n e cs m
inside_end_found q n e [] m h = cc
inside_end_found q n true (c ∷ cs) m h = step_escaped q n c cs m (inside_end_found q (n + 1) false cs m) (c == 10) refl h
inside_end_found q n false (c ∷ cs) m h = step q n c cs m (inside_end_found q (n + 1) (c == 92) cs m) (c == q) refl h

-- ---- strings

quote_apart : (q : ℕ) → (q ≡ 39) ⊎ (q ≡ 34) → q ≢ 92
quote_apart q (inl h) e = omega arith
quote_apart q (inr h) e = omega arith

-- the scan behind the first quote finds each string
pub string_end : (t cs : List ℕ) (c n : ℕ) → t ≡ c ∷ cs → IsString t n → (m : ℕ) × (inside_end c 0 false cs ≡ Some m) × (n ≡ m + 2)
string_end t cs c n e s =
    let f : s.quote ∷ s.inside ++ s.quote ∷ s.after ≡ c ∷ cs = sym s.parts ∙ e in
    let same : s.quote ≡ c = cc in
    let rest : s.inside ++ s.quote ∷ s.after ≡ cs = cc in
    let found = inside_end_finds s.quote 0 s.inside s.after (quote_apart s.quote s.is_quote) s.within in
    (0 + length s.inside, subst (λ x. inside_end c 0 false x ≡ Some (0 + length s.inside)) rest (subst (λ x. inside_end x 0 false (s.inside ++ s.quote ∷ s.after) ≡ Some (0 + length s.inside)) same found), omega (arith, s.bytes))

pub string_same : (t : List ℕ) (m n : ℕ) → IsString t m → IsString t n → m ≡ n
string_same t m n p q =
    let a = string_end t (p.inside ++ p.quote ∷ p.after) p.quote m p.parts p in
    let b = string_end t (p.inside ++ p.quote ∷ p.after) p.quote n p.parts q in
    let e : a.0 ≡ b.0 = (let f : Some a.0 ≡ Some b.0 = sym a.1 ∙ b.1 in cc) in
    omega (arith, a.2, b.2, e)

pub string_none : (t cs : List ℕ) (c : ℕ) → t ≡ c ∷ cs → inside_end c 0 false cs ≡ None → (n : ℕ) → ¬ IsString t n
string_none t cs c e none n s =
    let a = string_end t cs c n e s in
    let f : None ≡ Some a.0 = sym none ∙ a.1 in
    cc

pub string_some : (t cs : List ℕ) (c m : ℕ) → t ≡ c ∷ cs → (c ≡ 39) ⊎ (c ≡ 34) → inside_end c 0 false cs ≡ Some m → IsString t (m + 2)
string_some t cs c m e is_quote h =
    let f = inside_end_found c 0 false cs m h in
    record { quote = c; is_quote = is_quote; inside = f.inside; after = f.after; parts = e ∙ ap (λ x. c ∷ x) f.parts; within = f.within; bytes = omega (arith, f.bytes) }

-- no string begins with another byte
pub string_none_other : (t cs : List ℕ) (c : ℕ) → t ≡ c ∷ cs → c ≢ 39 → c ≢ 34 → (n : ℕ) → ¬ IsString t n
string_none_other t cs c e a b n s =
    let f : s.quote ∷ s.inside ++ s.quote ∷ s.after ≡ c ∷ cs = sym s.parts ∙ e in
    let same : s.quote ≡ c = cc in
    elim s.is_quote [ inl h ↦ a (sym same ∙ h) | inr h ↦ b (sym same ∙ h) ]

-- ---- how a scan that has come to a place goes on

module _ (q at : ℕ) (cs : List ℕ) where
  pub scan_stops : at < length cs → get_or cs at 0 ≡ 10 → inside_end q 0 false cs ≡ inside_end q at true (drop at cs) → inside_end q 0 false cs ≡ None
  scan_stops le is so_far = so_far ∙ ap (inside_end q at true) (drop-cons cs at 0 le) ∙ (rw (eq-eqb (get_or cs at 0) 10 is) refl)

  pub scan_closes : at < length cs → get_or cs at 0 ≡ q → inside_end q 0 false cs ≡ inside_end q at false (drop at cs) → inside_end q 0 false cs ≡ Some at
  scan_closes le is so_far = so_far ∙ ap (inside_end q at false) (drop-cons cs at 0 le) ∙ (rw (eq-eqb (get_or cs at 0) q is) refl)

  pub scan_ends : (e : Bool) → length cs ≤ at → inside_end q 0 false cs ≡ inside_end q at e (drop at cs) → inside_end q 0 false cs ≡ None
  scan_ends e le so_far = so_far ∙ ap (inside_end q at e) (drop_of_length-le cs le)
