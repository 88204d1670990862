-- The texts of a list, each at its first place alone: no two of them are equal.
use Rattle.std.proofs.Common.{◌≡◌, ◌≢◌, ℕ, zero, suc, ◌<◌, List, [], ◌∷◌, Bool, true, false, ◌||◌, if◌then◌else◌, length, get_or, AllPairs, Contains, refl, sym, ap, ◌∙◌, arith, true≢false}
use Rattle.std.specs.Str.{bytes_eq}
use Rattle.std.specs.Cmp.Lexicographic.{nat_list_eq_equiv}
use Rattle.std.proofs.lemmas.Map.Views.{list_any-from_Contains}
use Rattle.std.proofs.lemmas.Option.{slice_get-get_or, get_or_from_slice_get}
use Rattle.lw_grammar.specs.Kinds.{first_uses}
use Rattle.lw_grammar.proofs.FirstUses.{stands_in, same_text}

or_true : (b : Bool) → (b || true) ≡ true
or_true true = refl
or_true false = refl

-- a text that was seen before has no first place
abbrev LeavesOut : List (List ℕ) → List ℕ → List (List ℕ) → Type 0
LeavesOut texts text seen = stands_in text seen ≡ true → stands_in text (first_uses seen texts) ≡ false

leaves_out : (text : List ℕ) (seen texts : List (List ℕ)) → LeavesOut texts text seen
leaves_out text seen [] old = refl
leaves_out text seen (other ∷ texts) old = by (stands_in other seen) refl (leaves_out text seen texts) (leaves_out text (other ∷ seen) texts)
  where
    by : (b : Bool) → stands_in other seen ≡ b → LeavesOut texts text seen → LeavesOut texts text (other ∷ seen) →
        stands_in text (if b then first_uses seen texts else other ∷ first_uses (other ∷ seen) texts) ≡ false
    by true is same new = same old
    by false is same new = by_head (bytes_eq text other) refl
      where
        by_head : (b : Bool) → bytes_eq text other ≡ b → (bytes_eq text other || stands_in text (first_uses (other ∷ seen) texts)) ≡ false
        by_head true equal = absurd (true≢false (sym old ∙ ap (λ t. stands_in t seen) (same_text text other equal) ∙ is))
        by_head false differs =
            ap (λ b. b || stands_in text (first_uses (other ∷ seen) texts)) differs
            ∙ new (ap (λ b. bytes_eq text other || b) old ∙ or_true (bytes_eq text other))

pub first_uses-differ : (seen texts : List (List ℕ)) → AllPairs (λ text other. text ≢ other) (first_uses seen texts)
first_uses-differ seen [] = λ i j d below inside. absurd (omega (arith, inside))
first_uses-differ seen (text ∷ texts) = by (stands_in text seen) (first_uses-differ seen texts) (first_uses-differ (text ∷ seen) texts)
  where
    by : (b : Bool) → AllPairs (λ text other. text ≢ other) (first_uses seen texts) → AllPairs (λ text other. text ≢ other) (first_uses (text ∷ seen) texts) →
        AllPairs (λ text other. text ≢ other) (if b then first_uses seen texts else text ∷ first_uses (text ∷ seen) texts)
    by true same new = same
    by false same new = apart
      where
        apart : AllPairs (λ text other. text ≢ other) (text ∷ first_uses (text ∷ seen) texts)
        apart i zero d below inside = absurd (omega (arith, below))
        apart zero (suc j) d below inside = λ same.
            let later = first_uses (text ∷ seen) texts in
            let within : j < length later = omega (arith, inside) in
            let has : Contains later text = (j, within, get_or_from_slice_get later j (get_or later j d) text (slice_get-get_or later j d within) ∙ sym same) in
            let seen_now : stands_in text (text ∷ seen) ≡ true = list_any-from_Contains nat_list_eq_equiv text (text ∷ seen) (0, omega arith, refl) in
            true≢false (sym (list_any-from_Contains nat_list_eq_equiv text later has) ∙ leaves_out text (text ∷ seen) texts seen_now)
        apart (suc i) (suc j) d below inside = new i j d (omega (arith, below)) (omega (arith, inside))
