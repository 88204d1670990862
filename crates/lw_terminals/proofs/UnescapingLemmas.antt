-- A regular expression's text without the backslashes before its slashes: byte by byte, and that it stays UTF-8.
use Rattle.std.proofs.Common.{◌≡◌, ℕ, ◌+◌, ◌<◌, List, [], ◌∷◌, ◌++◌, Bool, true, false, ◌==◌, if◌then◌else◌, length, get_or, drop, refl, sym, ap, ◌∙◌, subst, arith}
use Rattle.std.specs.Str.{IsUtf8}
use Rattle.std.proofs.lemmas.List.{append_assoc, get_or_at, take_at, drop_at, length-append}
use Rattle.std.proofs.lemmas.Str.{IsUtf8-append, IsUtf8-take, IsUtf8-drop, IsCharBoundary-before_ascii, IsCharBoundary-after_ascii}
use Rattle.std.proofs.lemmas.Bool.Decides.{Decides-eqb}
use Rattle.lw_tokens.specs.Patterns.{unescaped}

false_from_not : (b : ℕ) → (b ≡ 92 → ⊥) → (b == 92) ≡ false
false_from_not b h = by (b == 92) refl
  where
    by : (t : Bool) → (b == 92) ≡ t → t ≡ false
    by true e = absurd (h ((Decides-eqb b 92).0 e))
    by false e = refl

-- what the rest of a text gives, behind a backslash that begins a pair or not
abbrev pub from_here : Bool → List ℕ → List ℕ
from_here true rest = unescaped (92 ∷ rest)
from_here false rest = unescaped rest

pub pair : (b : ℕ) (rest : List ℕ) → unescaped (92 ∷ b ∷ rest) ≡ unescaped (92 ∷ b ∷ []) ++ unescaped rest
pair b rest = by (b == 47)
  where
    by : (slash : Bool) → (if slash then 47 ∷ unescaped rest else 92 ∷ b ∷ unescaped rest) ≡ (if slash then 47 ∷ [] else 92 ∷ b ∷ []) ++ unescaped rest
    by true = refl
    by false = refl

pub no_backslash : (a : ℕ) (rest : List ℕ) → (a == 92) ≡ false → unescaped (a ∷ rest) ≡ a ∷ unescaped rest
no_backslash a [] h = refl
no_backslash a (b ∷ rest) h = ap (λ t. if t then (if b == 47 then 47 ∷ unescaped rest else a ∷ b ∷ unescaped rest) else a ∷ unescaped (b ∷ rest)) h

-- at the byte b, where `got` with what the rest gives is the whole, and `new` and `now` are what one byte makes of `got` and `was`
module _ (text : List ℕ) (i b : ℕ) (here : drop i text ≡ b ∷ drop (i + 1) text) (got new : List ℕ) (was now : Bool)
    (so_far : got ++ from_here was (drop i text) ≡ unescaped text) where
  put : was ≡ false → got ++ unescaped (b ∷ drop (i + 1) text) ≡ unescaped text
  put is = ap (λ x. got ++ unescaped x) (sym here) ∙ ap (λ t. got ++ from_here t (drop i text)) (sym is) ∙ so_far

  pub second_of_pair : was ≡ true → now ≡ false → new ≡ got ++ unescaped (92 ∷ b ∷ []) → new ++ from_here now (drop (i + 1) text) ≡ unescaped text
  second_of_pair before after put_in =
      let rest = drop (i + 1) text in
      ap (λ x. x ++ from_here now rest) put_in ∙ ap (λ t. (got ++ unescaped (92 ∷ b ∷ [])) ++ from_here t rest) after
      ∙ append_assoc got (unescaped (92 ∷ b ∷ [])) (unescaped rest) ∙ ap (λ x. got ++ x) (sym (pair b rest))
      ∙ ap (λ x. got ++ unescaped (92 ∷ x)) (sym here) ∙ ap (λ t. got ++ from_here t (drop i text)) (sym before) ∙ so_far

  pub first_of_pair : was ≡ false → b ≡ 92 → now ≡ true → new ≡ got → new ++ from_here now (drop (i + 1) text) ≡ unescaped text
  first_of_pair before is after kept =
      let rest = drop (i + 1) text in
      ap (λ x. x ++ from_here now rest) kept ∙ ap (λ t. got ++ from_here t rest) after ∙ ap (λ x. got ++ unescaped (x ∷ rest)) (sym is) ∙ put before

  pub no_pair : was ≡ false → (b ≡ 92 → ⊥) → now ≡ was → new ≡ got ++ b ∷ [] → new ++ from_here now (drop (i + 1) text) ≡ unescaped text
  no_pair before isn't after put_in =
      let rest = drop (i + 1) text in
      ap (λ x. x ++ from_here now rest) put_in ∙ ap (λ t. (got ++ b ∷ []) ++ from_here t rest) (after ∙ before)
      ∙ append_assoc got (b ∷ []) (unescaped rest) ∙ ap (λ x. got ++ x) (sym (no_backslash b rest (false_from_not b isn't))) ∙ put before

-- without an ASCII byte a text is still one
without_ascii : (front rest : List ℕ) (a : ℕ) → a < 128 → IsUtf8 (front ++ a ∷ rest) → IsUtf8 (front ++ rest)
without_ascii front rest a small text =
    let whole = front ++ a ∷ rest in
    let n = length front in
    let inside : n < length whole = omega (arith, length-append front (a ∷ rest)) in
    let here : get_or whole n 0 < 128 = subst (λ b. b < 128) (sym (get_or_at front a rest 0 n refl)) small in
    let before = subst IsUtf8 (take_at front (a ∷ rest) n refl) (IsUtf8-take whole n text (IsCharBoundary-before_ascii whole n inside here)) in
    let behind : drop (n + 1) whole ≡ rest = ap (drop (n + 1)) (sym (append_assoc front (a ∷ []) rest)) ∙ drop_at (front ++ a ∷ []) rest (n + 1) (length-append front (a ∷ [])) in
    let after = subst IsUtf8 behind (IsUtf8-drop whole (n + 1) text (IsCharBoundary-after_ascii whole n text inside here)) in
    IsUtf8-append front rest before after

unescaped_after : (front bytes : List ℕ) → IsUtf8 (front ++ bytes) → IsUtf8 (front ++ unescaped bytes)
unescaped_after front [] text = text
unescaped_after front (a ∷ []) text = text
unescaped_after front (a ∷ b ∷ rest) text =
    by (unescaped_after (front ++ b ∷ []) rest) (unescaped_after (front ++ a ∷ b ∷ []) rest) (unescaped_after (front ++ a ∷ []) (b ∷ rest))
    (a == 92) (b == 47) refl refl
  where
    by : (IsUtf8 ((front ++ b ∷ []) ++ rest) → IsUtf8 ((front ++ b ∷ []) ++ unescaped rest)) →
        (IsUtf8 ((front ++ a ∷ b ∷ []) ++ rest) → IsUtf8 ((front ++ a ∷ b ∷ []) ++ unescaped rest)) →
        (IsUtf8 ((front ++ a ∷ []) ++ b ∷ rest) → IsUtf8 ((front ++ a ∷ []) ++ unescaped (b ∷ rest))) →
        (backslash slash : Bool) → (a == 92) ≡ backslash → (b == 47) ≡ slash →
        IsUtf8 (front ++ (if backslash then (if slash then 47 ∷ unescaped rest else a ∷ b ∷ unescaped rest) else a ∷ unescaped (b ∷ rest)))
    by slashed paired single true true is_backslash is_slash =
        let small : a < 128 = omega (arith, (Decides-eqb a 92).0 is_backslash) in
        let kept = slashed (subst IsUtf8 (sym (append_assoc front (b ∷ []) rest)) (without_ascii front (b ∷ rest) a small text)) in
        subst (λ c. IsUtf8 (front ++ c ∷ unescaped rest)) ((Decides-eqb b 47).0 is_slash) (subst IsUtf8 (append_assoc front (b ∷ []) (unescaped rest)) kept)
    by slashed paired single true false is_backslash is_slash =
        subst IsUtf8 (append_assoc front (a ∷ b ∷ []) (unescaped rest)) (paired (subst IsUtf8 (sym (append_assoc front (a ∷ b ∷ []) rest)) text))
    by slashed paired single false slash is_backslash is_slash =
        subst IsUtf8 (append_assoc front (a ∷ []) (unescaped (b ∷ rest))) (single (subst IsUtf8 (sym (append_assoc front (a ∷ []) (b ∷ rest))) text))

pub IsUtf8-unescaped : (text : List ℕ) → IsUtf8 text → IsUtf8 (unescaped text)
IsUtf8-unescaped text h = unescaped_after [] text h
