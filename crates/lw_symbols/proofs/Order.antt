-- The order of symbols, and where those from one on begin.
use Rattle.std.proofs.Common.{ℕ, ◌≡◌, ◌==◌, ◌||◌, ◌&&◌, ◌≤◌, ◌<◌, nat_lt, nat_cmp, is_lt, Bool, true, false, true≢false, refl, sym, ◌∙◌, arith}
use Rattle.std.specs.Ordering.{ordering_then}
use Rattle.std.proofs.lemmas.Bool.Decides.{nat_tests}
use Rattle.lw_symbols.specs.declared.symbol.Symbol.{Symbol}
use Rattle.lw_symbols.specs.Symbols.{StandsUpTo}
use Rattle.lw_symbols.specs.Runs.{before_type}

-- ---- the test on numbers

abbrev before : ℕ → ℕ → ℕ → ℕ → ℕ → ℕ → Bool
before a b t c h l = nat_lt a c || ((a == c) && (nat_lt b h || ((b == h) && nat_lt t l)))

before_of : (a b t c h l : ℕ) → a ≤ c → (a ≡ c → b ≤ h) → (a ≡ c → b ≡ h → t < l) → before a b t c h l ≡ true
before_of a b t c h l le same further = grind (arith, nat_tests)

of_before : (a b t c h l : ℕ) → before a b t c h l ≡ true → (a ≤ c) × (a ≡ c → b ≤ h) × (a ≡ c → b ≡ h → t < l)
of_before a b t c h l is = grind (arith, nat_tests)

not_before : (a b t c h l : ℕ) → before a b t c h l ≡ false → (c ≤ a) × (a ≡ c → h ≤ b) × (a ≡ c → b ≡ h → l ≤ t)
not_before a b t c h l is = grind (arith, nat_tests)

-- ---- of symbols

pub is_before : (container hash low : ℕ) (s : Symbol) → before_type container hash low s ≡ true →
    (s.hash ≤ hash) × (s.hash ≡ hash → s.container.0 ≤ container) × (s.hash ≡ hash → s.container.0 ≡ container → s.type_id.0 < low)
is_before container hash low s is = of_before s.hash s.container.0 s.type_id.0 hash container low is

pub is_not_before : (container hash low : ℕ) (s : Symbol) → before_type container hash low s ≡ false →
    (hash ≤ s.hash) × (s.hash ≡ hash → container ≤ s.container.0) × (s.hash ≡ hash → s.container.0 ≡ container → low ≤ s.type_id.0)
is_not_before container hash low s is = not_before s.hash s.container.0 s.type_id.0 hash container low is

pub up_to_before : (container hash low : ℕ) (one other : Symbol) → StandsUpTo one other → before_type container hash low other ≡ true →
    before_type container hash low one ≡ true
up_to_before container hash low one other up is =
    let h = is_before container hash low other is in
    before_of one.hash one.container.0 one.type_id.0 hash container low (omega (arith, up.hash, h.0))
    (λ e. omega (arith, e, up.hash, up.container, h.0, h.1))
    (λ e f. omega (arith, e, f, up.hash, up.container, up.type_, h.0, h.1, h.2))

pub from_not_before : (container hash low : ℕ) (one other : Symbol) → StandsUpTo one other → before_type container hash low one ≡ false →
    before_type container hash low other ≡ false
from_not_before container hash low one other up fails = by (before_type container hash low other) refl
  where
    by : (b : Bool) → before_type container hash low other ≡ b → b ≡ false
    by false is = refl
    by true is = absurd (true≢false (sym (up_to_before container hash low one other up is) ∙ fails))

-- by the number alone
pub before_number : (container hash low : ℕ) (s : Symbol) → s.hash < hash → before_type container hash low s ≡ true
before_number container hash low s lt =
    before_of s.hash s.container.0 s.type_id.0 hash container low (omega (arith, lt)) (λ e. omega (arith, e, lt)) (λ e f. omega (arith, e, lt))

behind_first : (a b t c h l : ℕ) → c < a → before a b t c h l ≡ false
behind_first a b t c h l gt = grind (arith, nat_tests)

pub behind_number : (container hash low : ℕ) (s : Symbol) → hash < s.hash → before_type container hash low s ≡ false
behind_number container hash low s gt = behind_first s.hash s.container.0 s.type_id.0 hash container low gt

-- ---- what a sort gives

abbrev pub sort_lt : Symbol → Symbol → Bool
sort_lt x y =
    is_lt (ordering_then (ordering_then (ordering_then (nat_cmp x.hash y.hash) (nat_cmp x.container.0 y.container.0)) (nat_cmp x.type_id.0 y.type_id.0))
    (nat_cmp x.node.0 y.node.0))

not_lt : (a b t n c h l m : ℕ) → is_lt (ordering_then (ordering_then (ordering_then (nat_cmp c a) (nat_cmp h b)) (nat_cmp l t)) (nat_cmp m n)) ≡ false →
    (a ≤ c) × (a ≡ c → b ≤ h) × (a ≡ c → b ≡ h → t ≤ l) × (a ≡ c → b ≡ h → t ≡ l → n ≤ m)
not_lt a b t n c h l m is = grind (arith, nat_tests)

pub up_to : (one other : Symbol) → sort_lt other one ≡ false → StandsUpTo one other
up_to one other is =
    let h = not_lt one.hash one.container.0 one.type_id.0 one.node.0 other.hash other.container.0 other.type_id.0 other.node.0 is in
    record { hash = h.0; container = h.1; type_ = λ c same. h.2 same c; node = λ c same type. h.3 same c type }
