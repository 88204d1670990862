-- Texts that are blank, by the character that they begin with.
use Rattle.std.proofs.Common.{◌≡◌, ◌↔◌, ℕ, List, [], ◌∷◌, ◌++◌, Bool, true, false, ◌&&◌, true≢false, length, inl, inr, refl, sym, ap, ◌∙◌, subst, arith}
use Rattle.std.specs.Char.{IsScalar, is_whitespace, encode_utf8}
use Rattle.std.specs.Str.{IsUtf8, encode_utf8_all}
use Rattle.std.proofs.Math.Utf8.{scalar}
use Rattle.std.proofs.lemmas.List.{length-append}
use Rattle.std.proofs.lemmas.Str.{encode_same, length-encode, len_utf8_bounds}
use Rattle.lw_terminals.specs.Limits.{IsBlank}

not_nothing : (c : ℕ) (rest : List ℕ) → encode_utf8 c ++ rest ≡ [] → ⊥
not_nothing c rest is = omega (arith, ap length is, length-append (encode_utf8 c) rest, length-encode c, (len_utf8_bounds c).0)

-- what a text begins with is a character
pub scalar_first : (text rest : List ℕ) (c : ℕ) → IsUtf8 text → text ≡ encode_utf8 c ++ rest → IsScalar c
scalar_first text rest c ([], (_, spells)) is = absurd (not_nothing c rest (sym (spells ∙ is)))
scalar_first text rest c (d ∷ ds, (scalars, spells)) is = subst IsScalar (encode_same d c (encode_utf8_all ds) rest (spells ∙ is)).0 (both (scalar d) _ scalars).0
  where
    both : (a b : Bool) → (a && b) ≡ true → (a ≡ true) × (b ≡ true)
    both true b h = (refl, h)
    both false b h = absurd (true≢false (sym h))

-- a text that begins with a character is blank where that is white space
pub IsBlank-first : (text rest : List ℕ) (c : ℕ) → IsScalar c → text ≡ encode_utf8 c ++ rest → IsBlank text ↔ (is_whitespace c ≡ true)
IsBlank-first text rest c scalar is = (first, λ space. inr (c, scalar, space, rest, is))
  where
    first : IsBlank text → is_whitespace c ≡ true
    first (inl empty) = absurd (not_nothing c rest (sym is ∙ empty))
    first (inr (d, _, space, tail, starts)) = ap is_whitespace (encode_same c d rest tail (sym is ∙ starts)).0 ∙ space
