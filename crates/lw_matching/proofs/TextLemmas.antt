-- What stands in a text stands in it where more follows.
use Rattle.std.proofs.Common.{◌≡◌, ℕ, zero, suc, ◌+◌, ◌-◌, ◌<◌, ◌≤◌, Bool, true, false, cond, ◌&&◌, List, [], ◌∷◌, ◌++◌, length, take, drop, Option, Some, None, slice_get, nat_eq, ◌==◌, refl, sym, ap, ap₂, ◌∙◌, subst, ⊎_elim, arith, append_assoc, length-drop, drop_of_length-le, take-append-drop, true≢false}
use Rattle.std.proofs.lemmas.Bool.{cond-true, cases_lt, and_parts, and_from, leb-true, eqb-true}
use Rattle.std.proofs.lemmas.Bool.Decides.{Decides-eqb}
use Rattle.std.proofs.lemmas.List.{drop-append-le, take-append-le, take_all}
use Rattle.std.proofs.lemmas.Slice.Eq.{starts_is}
use Rattle.std.proofs.lemmas.Str.{length-encode, len_utf8_bounds}
use Rattle.std.specs.List.{starts_with}
use Rattle.std.specs.Char.{len_utf8, encode_utf8}
use Rattle.std.specs.Option.{option_or}
use Rattle.regex_hir.specs.declared.look.Look.{Look}
use Rattle.regex_hir.specs.Text.{is_some_and, byte_before, has_bytes_at, char_at, char_of_len_before, char_before}
use Rattle.regex_hir.specs.Looks.{holds, holds_between, side_before, side_after}
use Rattle.regex_hir.proofs.TextLemmas.{has_bytes_at_parts, has_bytes_at_from, has_bytes_at_fits, char_at_parts, char_at_from, char_at_fits}
use Rattle.regex_hir.proofs.AttemptLemmas.{cond_some}

pub slice_get-append : {X : Type 0} (xs more : List X) (i : ℕ) → i < length xs → slice_get (xs ++ more) i ≡ slice_get xs i
slice_get-append [] more i h = absurd (omega arith)
slice_get-append (x ∷ xs) more zero h = refl
slice_get-append (x ∷ xs) more (suc i) h = slice_get-append xs more i (omega arith)

has_no_bytes : (hay : List ℕ) (i : ℕ) (bs : List ℕ) → length bs ≡ 0 → has_bytes_at hay i bs ≡ true
has_no_bytes hay i [] e = has_bytes_at_from hay i [] (drop i hay) refl
has_no_bytes hay i (b ∷ bs) e = absurd (omega arith)

starts_of : (bs front rest : List ℕ) → bs ≡ front ++ rest → starts_with nat_eq bs front ≡ true
starts_of bs front rest e = (starts_is Decides-eqb bs front _ refl).1 rest e

-- the shorter of two fronts of a list is a front of the longer
two_fronts : (a x b y : List ℕ) → a ++ x ≡ b ++ y → length a ≤ length b → b ≡ a ++ drop (length a) b
two_fronts a x b y e h =
    let front : take (length a) b ≡ a =
    sym (take-append-le (length a) b y h) ∙ ap (take (length a)) (sym e) ∙ take-append-le (length a) a x (omega arith) ∙ take_all (length a) a (omega arith) in
    sym (take-append-drop (length a) b) ∙ ap (λ l. l ++ drop (length a) b) front

same_values : (o p : Option ℕ) → ((c : ℕ) → o ≡ Some c → p ≡ Some c) → ((c : ℕ) → p ≡ Some c → o ≡ Some c) → o ≡ p
same_values None None f g = refl
same_values None (Some y) f g = g y refl
same_values (Some x) p f g = sym (f x refl)

tested_parts : (a : Bool) (o : Option ℕ) (test : ℕ → Bool) (c : ℕ) → cond (a && is_some_and o test) o None ≡ Some c →
    (a ≡ true) × (o ≡ Some c) × (test c ≡ true)
tested_parts a o test c e =
    let p = cond_some (a && is_some_and o test) o c e in
    let both = and_parts a (is_some_and o test) p.0 in
    (both.0, p.1, subst (λ x. is_some_and x test ≡ true) p.1 both.1)

tested_from : (a : Bool) (o : Option ℕ) (test : ℕ → Bool) (c : ℕ) → a ≡ true → o ≡ Some c → test c ≡ true →
    cond (a && is_some_and o test) o None ≡ Some c
tested_from a o test c passed e t =
    cond-true _ o None (and_from a _ passed (subst (λ x. is_some_and x test ≡ true) (sym e) t)) ∙ e

module _ (text more : List ℕ) where
  pub has_bytes_at-append : (i : ℕ) (bs : List ℕ) → has_bytes_at text i bs ≡ true → has_bytes_at (text ++ more) i bs ≡ true
  has_bytes_at-append i bs h =
      ⊎_elim
      (λ (past : length text < i). has_no_bytes (text ++ more) i bs (omega (arith, has_bytes_at_fits text i bs h)))
      (λ (within : i ≤ length text). has_bytes_at_from (text ++ more) i bs (drop (i + length bs) text ++ more)
      (drop-append-le i text more within ∙ ap (λ l. l ++ more) (has_bytes_at_parts text i bs h) ∙ append_assoc bs (drop (i + length bs) text) more))
      (cases_lt (length text) i)

  -- bytes that stand only where more follows go on behind the text
  pub goes_on_behind : (i : ℕ) (bs : List ℕ) → has_bytes_at text i bs ≡ false → has_bytes_at (text ++ more) i bs ≡ true →
      starts_with nat_eq bs (drop i text) ≡ true
  goes_on_behind i bs not_here h =
      ⊎_elim
      (λ (past : length text < i). starts_of bs (drop i text) bs (sym (ap (λ l. l ++ bs) (drop_of_length-le text (omega arith)))))
      (λ (within : i ≤ length text).
      let both = sym (drop-append-le i text more within) ∙ has_bytes_at_parts (text ++ more) i bs h in
      ⊎_elim
      (λ (longer : length (drop i text) < length bs). starts_of bs (drop i text) (drop (length (drop i text)) bs)
      (two_fronts (drop i text) more bs (drop (i + length bs) (text ++ more)) both (omega arith)))
      (λ (fits : length bs ≤ length (drop i text)). absurd (true≢false
      (sym (has_bytes_at_from text i bs (drop (length bs) (drop i text))
      (two_fronts bs (drop (i + length bs) (text ++ more)) (drop i text) more (sym both) fits)) ∙ not_here)))
      (cases_lt (length (drop i text)) (length bs)))
      (cases_lt (length text) i)

  pub char_at-append : (i c : ℕ) → char_at text i ≡ Some c → char_at (text ++ more) i ≡ Some c
  char_at-append i c e =
      let p = char_at_parts text i c e in
      let fits = char_at_fits text i c e in
      char_at_from (text ++ more) i c (drop (i + len_utf8 c) text ++ more) p.0
      (drop-append-le i text more (omega arith) ∙ ap (λ l. l ++ more) p.1 ∙ append_assoc (encode_utf8 c) (drop (i + len_utf8 c) text) more)

  char_at-within : (i c : ℕ) → i + len_utf8 c ≤ length text → char_at (text ++ more) i ≡ Some c → char_at text i ≡ Some c
  char_at-within i c fits e =
      let p = char_at_parts (text ++ more) i c e in
      let both = sym (drop-append-le i text more (omega arith)) ∙ p.1 in
      let room : length (encode_utf8 c) ≤ length (drop i text) = omega (arith, length-drop i text, length-encode c, len_utf8_bounds c) in
      char_at_from text i c (drop (length (encode_utf8 c)) (drop i text)) p.0
      (two_fronts (encode_utf8 c) (drop (i + len_utf8 c) (text ++ more)) (drop i text) more (sym both) room)

  char_of_len_before-append : (n i : ℕ) → i ≤ length text → char_of_len_before (text ++ more) n i ≡ char_of_len_before text n i
  char_of_len_before-append n i h =
      same_values _ _
      (λ c e. let p = tested_parts _ _ _ c e in
      let below = leb-true n i p.0 in
      let long = eqb-true (len_utf8 c) n p.2 in
      tested_from _ _ _ c p.0 (char_at-within (i - n) c (omega arith) p.1) p.2)
      (λ c e. let p = tested_parts _ _ _ c e in tested_from _ _ _ c p.0 (char_at-append (i - n) c p.1) p.2)

  char_before-append : (i : ℕ) → i ≤ length text → char_before (text ++ more) i ≡ char_before text i
  unfolding char_before
  char_before-append i h =
      ap₂ option_or (char_of_len_before-append 1 i h) (ap₂ option_or (char_of_len_before-append 2 i h)
      (ap₂ option_or (char_of_len_before-append 3 i h) (char_of_len_before-append 4 i h)))

  byte_before-append : (i : ℕ) → i ≤ length text → byte_before (text ++ more) i ≡ byte_before text i
  unfolding byte_before
  byte_before-append zero h = refl
  byte_before-append (suc i) h =
      let inside : suc i - 1 < length text = omega arith in
      ap (cond (suc i == 0) None) (slice_get-append text more (suc i - 1) inside)

  -- an assertion looks no further than the character behind it
  pub holds-append : (l : Look) (i c : ℕ) → char_at text i ≡ Some c → holds l (text ++ more) i ≡ holds l text i
  unfolding holds
  holds-append l i c e =
      let fits = char_at_fits text i c e in
      let bounds = len_utf8_bounds c in
      let before : side_before (text ++ more) i ≡ side_before text i =
      ap₂ (λ b d. record { byte = b; char = d }) (byte_before-append i (omega arith)) (char_before-append i (omega arith)) in
      let after : side_after (text ++ more) i ≡ side_after text i =
      ap₂ (λ b d. record { byte = b; char = d }) (slice_get-append text more i (omega arith)) (char_at-append i c e ∙ sym e) in
      ap₂ (holds_between l) before after
