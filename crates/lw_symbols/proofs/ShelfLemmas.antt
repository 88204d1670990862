-- Numbers and shelves ascend together.
use Rattle.std.proofs.Common.{ℕ, ◌≡◌, ◌*◌, ◌/◌, ◌+◌, ◌≤◌, ◌<◌, inl, inr, List, [], ◌∷◌, ◌++◌, Option, Some, None, length, min, slice_get, refl, sym, ap, subst, ◌∙◌, arith}
use Rattle.std.specs.Option.{unwrap_or}
use Rattle.std.proofs.Math.Nat.{div-mul-le_self, mul-le-mul_right}
use Rattle.std.proofs.lemmas.Bool.{cases_lt}
use Rattle.std.proofs.lemmas.List.{get_or_append_left, get_or_push, length-append}
use Rattle.std.proofs.lemmas.Nat.{le-div}
use Rattle.std.proofs.lemmas.Option.{same_Some, slice_get-get_or, slice_get_within, get_or_from_slice_get}
use Rattle.lw_symbols.specs.declared.symbol.Symbol.{Symbol}
use Rattle.lw_symbols.specs.Shelves.{AreShelfStarts, AreStartsOf, IsShelfStart, shelf}
use Rattle.lw_symbols.specs.Symbols.{AreSymbolsSorted}
use Rattle.lw_symbols.proofs.RunLemmas.{in_order_at}

parts_up : (a b : ℕ) → a ≤ b → a / 65536 ≤ b / 65536
parts_up a b le = le-div (a / 65536) b 65536 (omega arith) (omega (arith, div-mul-le_self a 65536, le))

pub shelf_up : (count a b : ℕ) → a ≤ b → shelf count a ≤ shelf count b
shelf_up count a b le =
    parts_up ((a / 65536) * count) ((b / 65536) * count) (mul-le-mul_right count (parts_up a b le))

-- of a lesser shelf are lesser numbers
pub number_below : (count a b : ℕ) → shelf count a < shelf count b → a < b
number_below count a b lt = elim (cases_lt a b) [
  | inl less ↦ less
  | inr ge ↦ absurd (omega (arith, shelf_up count b a ge, lt))
]

module _ (count : ℕ) (symbols : List Symbol) (starts : List ℕ) (are : AreShelfStarts count starts symbols) where
  -- up to where a shelf begins, and from where the next one does
  pub bound_at : (b otherwise : ℕ) → otherwise ≤ length symbols → unwrap_or (slice_get starts b) otherwise ≤ length symbols
  bound_at b otherwise le = by (slice_get starts b) (are b)
    where
      by : (found : Option ℕ) → ((start : ℕ) → found ≡ Some start → IsShelfStart count b symbols start) → unwrap_or found otherwise ≤ length symbols
      by None all = le
      by (Some start) all = (all start refl).bound

  pub before_at : (b : ℕ) (k : ℕ) (s : Symbol) → k < unwrap_or (slice_get starts b) 0 → slice_get symbols k ≡ Some s → shelf count s.hash < b
  before_at b k s = by (slice_get starts b) (are b)
    where
      by : (found : Option ℕ) → ((start : ℕ) → found ≡ Some start → IsShelfStart count b symbols start) → k < unwrap_or found 0 → slice_get symbols k ≡ Some s →
          shelf count s.hash < b
      by None all lt at = absurd (omega (arith, lt))
      by (Some start) all lt at = (all start refl).before k s lt at

  pub behind_at : (b : ℕ) (k : ℕ) (s : Symbol) → unwrap_or (slice_get starts b) (length symbols) ≤ k → slice_get symbols k ≡ Some s → b ≤ shelf count s.hash
  behind_at b k s = by (slice_get starts b) (are b)
    where
      by : (found : Option ℕ) → ((start : ℕ) → found ≡ Some start → IsShelfStart count b symbols start) → unwrap_or found (length symbols) ≤ k →
          slice_get symbols k ≡ Some s → b ≤ shelf count s.hash
      by None all le at = absurd (omega (arith, le, slice_get_within symbols k s at))
      by (Some start) all le at = (all start refl).behind k s le at

  pub ascend : (b : ℕ) → unwrap_or (slice_get starts b) 0 ≤ unwrap_or (slice_get starts (b + 1)) (length symbols)
  ascend b = elim (cases_lt (unwrap_or (slice_get starts (b + 1)) (length symbols)) (unwrap_or (slice_get starts b) 0)) [
    | inl lt ↦
        let k : ℕ = unwrap_or (slice_get starts (b + 1)) (length symbols) in
        let inside : k < length symbols = omega (arith, lt, bound_at b 0 (omega arith)) in
        let at = slice_get-get_or symbols k (record { container = record { 0 = 0 }; hash = 0; type_id = record { 0 = 0 }; node = record { 0 = 0 } }) inside in
        absurd (omega (arith, before_at b k _ lt at, behind_at (b + 1) k _ (omega arith) at))
    | inr ge ↦ ge
  ]

  -- one more shelf begins here
  pub one_shelf : (place : ℕ) (b : ℕ) → b ≡ length starts → IsShelfStart count b symbols place → AreShelfStarts count (starts ++ place ∷ []) symbols
  one_shelf place b is begins c start at = elim (cases_lt c (length starts)) [
    | inl lt ↦
        are c start
        (slice_get-get_or starts c start lt ∙ ap Some (sym (get_or_append_left starts (place ∷ []) start c lt)
        ∙ get_or_from_slice_get (starts ++ place ∷ []) c start start at))
    | inr ge ↦
        let long : length (starts ++ place ∷ []) ≡ length starts + 1 = length-append starts (place ∷ []) in
        let same : c ≡ length starts = omega (arith, ge, long, slice_get_within (starts ++ place ∷ []) c start at) in
        let here : start ≡ place =
        sym (get_or_from_slice_get (starts ++ place ∷ []) c start start at) ∙ get_or_push starts place start c (sym same) in
        subst (IsShelfStart count c symbols) (sym here) (subst (λ (n : ℕ). IsShelfStart count n symbols place) (is ∙ sym same) begins)
  ]

-- the places of the own shelf
module _ (symbols : List Symbol) (starts : List ℕ) (all : AreStartsOf symbols starts) (hash own count : ℕ) (own_is : own ≡ shelf count hash)
    (count_is : count ≡ min (length symbols) 65536) where
  are : AreShelfStarts count starts symbols
  are = subst (λ (n : ℕ). AreShelfStarts n starts symbols) (sym count_is) all

  pub start_first : (first last : ℕ) → first ≡ unwrap_or (slice_get starts own) 0 → last ≡ unwrap_or (slice_get starts (own + 1)) (length symbols) →
      first ≤ last
  start_first first last first_is last_is = omega (arith, first_is, last_is, ascend count symbols starts are own)

  pub lesser_before : (first : ℕ) → first ≡ unwrap_or (slice_get starts own) 0 → (k : ℕ) (s : Symbol) → k < first → slice_get symbols k ≡ Some s →
      s.hash < hash
  lesser_before first first_is k s lt at =
      let sooner : shelf count s.hash < own = before_at count symbols starts are own k s (subst (λ (n : ℕ). k < n) first_is lt) at in
      number_below count s.hash hash (subst (λ (n : ℕ). shelf count s.hash < n) own_is sooner)

  pub greater_behind : (last : ℕ) → last ≡ unwrap_or (slice_get starts (own + 1)) (length symbols) → (k : ℕ) (s : Symbol) → last ≤ k →
      slice_get symbols k ≡ Some s → hash < s.hash
  greater_behind last last_is k s le at =
      let later : own + 1 ≤ shelf count s.hash = behind_at count symbols starts are (own + 1) k s (subst (λ (n : ℕ). n ≤ k) last_is le) at in
      let more : own < shelf count s.hash = omega (arith, later) in
      number_below count hash s.hash (subst (λ (n : ℕ). n < shelf count s.hash) own_is more)

-- ---- where shelves begin

pub no_shelves : (count : ℕ) (symbols : List Symbol) (starts : List ℕ) → starts ≡ [] → AreShelfStarts count starts symbols
no_shelves count symbols starts none b start at = absurd (omega (arith, slice_get_within starts b start at, ap length none))

module _ (count : ℕ) (symbols : List Symbol) (place : ℕ) (p : Symbol) (at : slice_get symbols place ≡ Some p) (own : ℕ)
    (own_is : own ≡ shelf count p.hash) (b : ℕ) (before : (k : ℕ) (s : Symbol) → k < place → slice_get symbols k ≡ Some s → shelf count s.hash < b) where
  pub begins_at : AreSymbolsSorted symbols → b ≤ own → IsShelfStart count b symbols place
  begins_at sorted le = record {
    bound = omega (arith, slice_get_within symbols place p at);
    before = before;
    behind = λ k s up there. omega (arith, le, own_is, shelf_up count p.hash s.hash (in_order_at symbols place k p s sorted up at there).hash);
  }

  pub up_to_place : own < b → (k : ℕ) (s : Symbol) → k < place + 1 → slice_get symbols k ≡ Some s → shelf count s.hash < b
  up_to_place lt k s less there = elim (cases_lt k place) [
    | inl sooner ↦ before k s sooner there
    | inr ge ↦
        let here : k ≡ place = omega (arith, less, ge) in
        let same : p ≡ s = same_Some p s (sym at ∙ ap (λ (n : ℕ). slice_get symbols n) (sym here) ∙ there) in
        subst (λ (x : Symbol). shelf count x.hash < b) same (subst (λ (n : ℕ). n < b) own_is lt)
  ]
