-- The longest keyword among those that begin with the text's first byte, and how it goes on from one to the next.
use Rattle.std.proofs.Common.{◌≡◌, ℕ, ◌+◌, ◌<◌, ◌≤◌, ◌&&◌, List, [], ◌∷◌, length, take, Option, Some, None, Bool, true, false, nat_lt, nat_eq, if◌then◌else◌, slice_get, MatchOption, All, IsUtf8, IsCharBoundary, ◌∙◌, sym, refl, subst, ap, arith, inl, inr}
use Rattle.std.specs.List.{starts_with}
use Rattle.std.proofs.lemmas.Bool.{cases_lt}
use Rattle.std.proofs.lemmas.Bool.Decides.{nat_tests}
use Rattle.std.proofs.lemmas.Option.{same_Some, slice_get_within, slice_get_read, get_or_from_slice_get}
use Rattle.std.proofs.lemmas.Slice.Eq.{bytes_eq-Decides}
use Rattle.std.proofs.lemmas.Str.{IsCharBoundary-from_take}
use Rattle.lw_matchers.specs.Starting.{StartsAt, AreStarting}
use Rattle.lw_tokens.specs.NextToken.{Begins, IsLongest, HasNone}
use Rattle.lw_lexer.specs.Longer.{is_longer, longer_of}

-- among the first i of these places, the text begins with no keyword
abbrev pub HasNoneOf : ℕ → List ℕ → List (List ℕ) → List ℕ → Type 0
HasNoneOf i places keywords text =
    (m j : ℕ) (other : List ℕ) → m < i → slice_get places m ≡ Some j → slice_get keywords j ≡ Some other → ¬ Begins text other

-- the keyword at the place k is the longest at the first i of these places that the text begins with, and takes n bytes
pub record IsLongestOf (i : ℕ) (places : List ℕ) (keywords : List (List ℕ)) (text : List ℕ) (k n : ℕ) : Type 0 where
  pub keyword : List ℕ
  pub there : slice_get keywords k ≡ Some keyword
  pub begins : Begins text keyword
  pub bytes : length keyword ≡ n
  pub longest : (m j : ℕ) (other : List ℕ) → m < i → slice_get places m ≡ Some j → slice_get keywords j ≡ Some other → Begins text other → length other ≤ n

abbrev pub IsBestOf : ℕ → List ℕ → List (List ℕ) → List ℕ → Option (ℕ × ℕ) → Type 0
IsBestOf i places keywords text None = HasNoneOf i places keywords text
IsBestOf i places keywords text (Some (k, n)) = IsLongestOf i places keywords text k n

module _ (i : ℕ) (places : List ℕ) (keywords : List (List ℕ)) (text : List ℕ) (place : ℕ) (keyword : List ℕ)
    (next : slice_get places i ≡ Some place) (there : slice_get keywords place ≡ Some keyword) where
  is_same : (m j : ℕ) (other : List ℕ) → m < i + 1 → i ≤ m → slice_get places m ≡ Some j → slice_get keywords j ≡ Some other → other ≡ keyword
  is_same m j other p q at e =
      let here : m ≡ i = omega arith in
      let same : j ≡ place = same_Some _ _ (sym at ∙ ap (slice_get places) here ∙ next) in
      same_Some _ _ (sym e ∙ ap (slice_get keywords) same ∙ there)

  taken : (best : Option (ℕ × ℕ)) → IsBestOf i places keywords text best → Begins text keyword → is_longer (length keyword) best ≡ true →
      IsLongestOf (i + 1) places keywords text place (length keyword)
  taken None before begins longer = record {
    keyword = keyword;
    there = there;
    begins = begins;
    bytes = refl;
    longest = λ m j other p at e q. elim (cases_lt m i) [
      | inl lt ↦ absurd (before m j other lt at e q)
      | inr ge ↦ (let s = is_same m j other p ge at e in rw s (omega arith))
    ];
  }
  taken (Some (k, n)) before begins longer = record {
    keyword = keyword;
    there = there;
    begins = begins;
    bytes = refl;
    longest = λ m j other p at e q. elim (cases_lt m i) [
      | inl lt ↦ (let a : length other ≤ n = before.longest m j other lt at e q in
          let b : n < length keyword = grind (nat_tests, longer, arith) in omega arith)
      | inr ge ↦ (let s = is_same m j other p ge at e in rw s (omega arith))
    ];
  }

  left : (best : Option (ℕ × ℕ)) → IsBestOf i places keywords text best → (Begins text keyword → is_longer (length keyword) best ≡ false) →
      IsBestOf (i + 1) places keywords text best
  left None before shorter = λ m j other p at e q. elim (cases_lt m i) [
    | inl lt ↦ before m j other lt at e q
    | inr ge ↦ (let s = is_same m j other p ge at e in absurd (let c = shorter (subst (Begins text) s q) in cc))
  ]
  left (Some (k, n)) before shorter = record {
    keyword = before.keyword;
    there = before.there;
    begins = before.begins;
    bytes = before.bytes;
    longest = λ m j other p at e q. elim (cases_lt m i) [
      | inl lt ↦ before.longest m j other lt at e q
      | inr ge ↦ (let s = is_same m j other p ge at e in let c : nat_lt n (length keyword) ≡ false = shorter (subst (Begins text) s q) in
          let d : length keyword ≤ n = grind (nat_tests, c, arith) in rw s d)
    ];
  }

  pub best-longer_of : (best : Option (ℕ × ℕ)) → IsBestOf i places keywords text best →
      IsBestOf (i + 1) places keywords text (longer_of text place keyword best)
  best-longer_of best before = by_cases (starts_with nat_eq text keyword) (is_longer (length keyword) best) refl refl
    where
      by_cases : (a b : Bool) → starts_with nat_eq text keyword ≡ a → is_longer (length keyword) best ≡ b →
          IsBestOf (i + 1) places keywords text (if a && b then Some (place, length keyword) else best)
      by_cases true true e f = taken best before e f
      by_cases true false e f = left best before (λ _. f)
      by_cases false b e f = left best before (λ g. absurd (let x : true ≡ false = sym g ∙ e in cc))

-- a keyword that is not empty and that the text begins with, begins with the text's first byte
starts_at : (keywords : List (List ℕ)) (text : List ℕ) (first j : ℕ) (other : List ℕ) → slice_get text 0 ≡ Some first → slice_get keywords j ≡ Some other →
    0 < length other → Begins text other → StartsAt keywords first j
starts_at keywords [] first j other is e some b = absurd cc
starts_at keywords (t ∷ text) first j [] is e some b = absurd (omega (arith, some))
starts_at keywords (t ∷ text) first j (o ∷ os) is e some b =
    let same : o ∷ os ≡ t ∷ take (length os) text = (bytes_eq-Decides (o ∷ os) (t ∷ take (length os) text)).0 b in
    let head : o ≡ first = cc in (os, e ∙ ap (λ x. Some (x ∷ os)) head)

module _ (keywords : List (List ℕ)) (filled : All (λ word. 0 < length word) keywords) where
  is_filled : (j : ℕ) (other : List ℕ) → slice_get keywords j ≡ Some other → 0 < length other
  is_filled j other e =
      subst (λ (word : List ℕ). 0 < length word) (get_or_from_slice_get keywords j other other e) (filled j other (slice_get_within keywords j other e))

  -- the empty text begins with no keyword
  pub none_at_end : (text : List ℕ) → slice_get text 0 ≡ None → HasNone keywords text
  none_at_end [] is j [] e b = absurd (omega (arith, is_filled j [] e))
  none_at_end [] is j (o ∷ os) e b = absurd (let same : o ∷ os ≡ [] = (bytes_eq-Decides (o ∷ os) []).0 b in cc)
  none_at_end (t ∷ text) is j other e b = absurd cc

  -- the longest at the places of the keywords that begin with the text's first byte is the longest of all
  pub best_of_all : (text : List ℕ) (first : ℕ) (places : List ℕ) (i : ℕ) (best : Option (ℕ × ℕ)) → slice_get text 0 ≡ Some first →
      AreStarting keywords first places → length places ≤ i → IsBestOf i places keywords text best →
      MatchOption best (HasNone keywords text) (λ found. IsLongest keywords text found.0 found.1)
  best_of_all text first places i best is starting all = by_cases best
    where
      found : (j : ℕ) (other : List ℕ) → slice_get keywords j ≡ Some other → Begins text other → (m : ℕ) × (m < i) × (slice_get places m ≡ Some j)
      found j other e b =
          let at = (starting j).1 (starts_at keywords text first j other is e (is_filled j other e) b) in
          (at.0, omega (arith, at.1, all), slice_get_read places (length places) at.0 j refl at.1 (sym at.2))

      by_cases : (best : Option (ℕ × ℕ)) → IsBestOf i places keywords text best →
          MatchOption best (HasNone keywords text) (λ found. IsLongest keywords text found.0 found.1)
      by_cases None before = λ j other e b. let at = found j other e b in before at.0 j other at.1 at.2 e b
      by_cases (Some (k, n)) before = record {
        keyword = before.keyword;
        there = before.there;
        begins = before.begins;
        bytes = before.bytes;
        longest = λ j other e b. let at = found j other e b in before.longest at.0 j other at.1 at.2 e b;
      }

-- a text can be cut behind a keyword that it begins with
pub boundary-begins : (text keyword : List ℕ) → IsUtf8 text → IsUtf8 keyword → Begins text keyword → length keyword ≤ length text →
    IsCharBoundary text (length keyword)
boundary-begins text keyword u v b le =
    IsCharBoundary-from_take text (length keyword) u le (subst IsUtf8 ((bytes_eq-Decides keyword (take (length keyword) text)).0 b) v)

pub ruleset seams = (boundary-begins)
