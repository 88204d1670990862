-- The least node of symbols that pass by one test or by another.
use Rattle.std.proofs.Common.{ℕ, ◌≡◌, ◌≤◌, ◌⊎◌, inl, inr, Bool, true, false, nat_le, List, Option, Some, Contains, refl, arith}
use Rattle.std.specs.Prelude.{if◌then◌else◌}
use Rattle.std.proofs.lemmas.Bool.Decides.{nat_tests}
use Rattle.lw_base.specs.declared.numbers.NodeId.{NodeId}
use Rattle.lw_symbols.specs.declared.symbol.Symbol.{Symbol}
use Rattle.lw_symbols.specs.Least.{IsLeastSymbol, least, absent, lesser_node}

le_true : (a b : ℕ) → nat_le a b ≡ true → a ≤ b
le_true a b is = grind (arith, nat_tests)

le_false : (a b : ℕ) → nat_le a b ≡ false → b ≤ a
le_false a b is = grind (arith, nat_tests)

pub least_same : {passes all : Symbol → Type 0} {symbols : List Symbol} {found : Option NodeId} → IsLeastSymbol passes symbols found →
    ((s : Symbol) → passes s → all s) → ((s : Symbol) → Contains symbols s → all s → passes s) → IsLeastSymbol all symbols found
least_same (least s is has does up) forth back = least s is has (forth s does) (λ other there fits. up other there (back other there fits))
least_same (absent misses) forth back = absent (λ s has fits. misses s has (back s has fits))

only : {P Q R : Type 0} → (P → R) → ¬ Q → P ⊎ Q → R
only f g (inl p) = f p
only f g (inr q) = absurd (g q)

other_only : {P Q R : Type 0} → ¬ P → (Q → R) → P ⊎ Q → R
other_only f g (inl p) = absurd (f p)
other_only f g (inr q) = g q

at_most : (n k m x : ℕ) {P Q : Type 0} → m ≤ n → m ≤ k → (P → n ≤ x) → (Q → k ≤ x) → P ⊎ Q → m ≤ x
at_most n k m x le le' up up' (inl fits) = omega (arith, le, up fits)
at_most n k m x le le' up up' (inr fits) = omega (arith, le', up' fits)

module _ (passes others all : Symbol → Type 0) (symbols : List Symbol) (one : (s : Symbol) → passes s → all s) (other : (s : Symbol) → others s → all s)
    (either : (s : Symbol) → Contains symbols s → all s → passes s ⊎ others s) where
  pub least_of_both : (a b : Option NodeId) → IsLeastSymbol passes symbols a → IsLeastSymbol others symbols b → IsLeastSymbol all symbols (lesser_node a b)
  least_of_both a b (least {n} s is has does up) (least {n = k} t was there fits up') = by (nat_le n.0 k.0) refl
    where
      by : (b : Bool) → nat_le n.0 k.0 ≡ b → IsLeastSymbol all symbols (if b then Some n else Some k)
      by true le =
          least s is has (one s does)
          (λ x within passing. at_most n.0 k.0 n.0 x.node.0 (omega arith) (le_true n.0 k.0 le) (up x within) (up' x within) (either x within passing))
      by false le =
          least t was there (other t fits)
          (λ x within passing. at_most n.0 k.0 k.0 x.node.0 (le_false n.0 k.0 le) (omega arith) (up x within) (up' x within) (either x within passing))
  least_of_both a b (least {n} s is has does up) (absent misses) =
      least s is has (one s does) (λ x within passing. only (up x within) (misses x within) (either x within passing))
  least_of_both a b (absent misses) (least {n} s is has does up) =
      least s is has (other s does) (λ x within passing. other_only (misses x within) (up x within) (either x within passing))
  least_of_both a b (absent misses) (absent fails) = absent (λ x within passing. only (misses x within) (fails x within) (either x within passing))
