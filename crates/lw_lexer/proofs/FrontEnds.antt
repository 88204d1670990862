-- Where the first tokens of a text end.
use Rattle.std.proofs.Common.{ℕ, ◌≡◌, ◌+◌, ◌-◌, ◌<◌, ◌==◌, List, [], ◌∷◌, Bool, true, All, IsCharBoundary, length, take, get_or, slice_range, refl, sym, ap, ◌∙◌, arith}
use Rattle.std.proofs.lemmas.Bool.Decides.{Decides-eqb}
use Rattle.std.proofs.lemmas.List.{take_more}
use Rattle.std.proofs.lemmas.List.Elements.{All-head, All-tail}
use Rattle.lw_base.specs.declared.token.Token.{Token}
use Rattle.lw_lexer.specs.TokenPlaces.{IsTokenPlace}
use Rattle.lw_matching.specs.Front.{end_from}
use Rattle.lw_matching.proofs.FrontLemmas.{end_from-push}

pub end_of_more : (tokens : List Token) (n : ℕ) (d : Token) → n < length tokens → (get_or tokens n d).span.end ≡ end_from 0 (take (n + 1) tokens)
end_of_more tokens n d inside = sym (ap (end_from 0) (take_more tokens n d inside) ∙ end_from-push 0 (take n tokens) (get_or tokens n d))

pub first_bytes : (text : List ℕ) (n : ℕ) → slice_range text 0 n ≡ take n text
first_bytes text n = ap (λ (k : ℕ). take k text) (let same : n - 0 ≡ n = omega arith in same)

pub boundary_from : (front : List ℕ) (at : ℕ) (ts : List Token) → IsCharBoundary front at → All (IsTokenPlace front) ts → IsCharBoundary front (end_from at ts)
boundary_from front at [] here all = here
boundary_from front at (t ∷ ts) here all =
    boundary_from front t.span.end ts (All-head (IsTokenPlace front) t ts all).ends (All-tail (IsTokenPlace front) t ts all)

-- a list that is told to be empty
pub emptied : (xs : List ℕ) → (r : Bool) → r ≡ (length xs == 0) → r ≡ true → xs ≡ []
emptied xs r told is = none xs ((Decides-eqb (length xs) 0).0 (sym told ∙ is))
  where
    none : (ys : List ℕ) → length ys ≡ 0 → ys ≡ []
    none [] e = refl
    none (y ∷ ys) e = absurd (omega (arith, e))
