-- The order of keys, part by part.
use Rattle.std.proofs.Common.{ℕ, ◌≡◌, ◌<◌, ◌⊎◌, inl, inr, refl, arith}
use Rattle.std.specs.Cmp.Lexicographic.{slice_cmp}
use Rattle.std.specs.Ordering.{nat_cmp, ordering_then}
use Rattle.std.specs.declared.cmp.Ordering.{Ordering}
use Rattle.std.specs.declared.cmp.Ordering.TheVariants.{Less, Equal, Greater}
use Rattle.std.proofs.lemmas.Bool.Decides.{nat_tests}
use Rattle.std.proofs.lemmas.Map.Lookups.{exact_bytes}
use Rattle.lw_query.specs.Gathered.{SpotKey, key_cmp}

pub equal_numbers : (a b : ℕ) → nat_cmp a b ≡ Equal → a ≡ b
equal_numbers a b is = grind (arith, nat_tests)

pub less_numbers : (a b : ℕ) → nat_cmp a b ≡ Less → a < b
less_numbers a b is = grind (arith, nat_tests)

then_equal : (a b : Ordering) → ordering_then a b ≡ Equal → (a ≡ Equal) × (b ≡ Equal)
then_equal Less b is = absurd (let no = is in cc)
then_equal Equal b is = (refl, is)
then_equal Greater b is = absurd (let no = is in cc)

pub then_less : (a b : Ordering) → ordering_then a b ≡ Less → (a ≡ Less) ⊎ ((a ≡ Equal) × (b ≡ Less))
then_less Less b is = inl refl
then_less Equal b is = inr (refl, is)
then_less Greater b is = absurd (let no = is in cc)

module _ (a b : SpotKey) where
  abbrev pub addresses : Ordering
  addresses = slice_cmp nat_cmp a.0.now b.0.now

  abbrev pub starts : Ordering
  starts = ordering_then addresses (nat_cmp a.1 b.1)

  abbrev pub ends : Ordering
  ends = ordering_then starts (nat_cmp a.2 b.2)

  pub same_address : addresses ≡ Equal → a.0.now ≡ b.0.now
  same_address is = exact_bytes a.0.now b.0.now is

  pub same_start : starts ≡ Equal → (a.0.now ≡ b.0.now) × (a.1 ≡ b.1)
  same_start is = let (address, start) = then_equal addresses (nat_cmp a.1 b.1) is in (same_address address, equal_numbers a.1 b.1 start)

  pub same_end : ends ≡ Equal → (a.0.now ≡ b.0.now) × (a.1 ≡ b.1) × (a.2 ≡ b.2)
  same_end is =
      let (most, end) = then_equal starts (nat_cmp a.2 b.2) is in let (address, start) = same_start most in (address, start, equal_numbers a.2 b.2 end)

  pub same_all : key_cmp a b ≡ Equal → (a.0.now ≡ b.0.now) × (a.1 ≡ b.1) × (a.2 ≡ b.2) × (a.3 ≡ b.3)
  same_all is =
      let (most, doc) = then_equal ends (nat_cmp a.3 b.3) is in
      let (address, start, end) = same_end most in (address, start, end, equal_numbers a.3 b.3 doc)
