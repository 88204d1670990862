-- Of two addresses one comes first, or they are the same.
use Rattle.std.proofs.Common.{◌≡◌, ℕ, List, refl, ap, ◌∙◌}
use Rattle.std.specs.Cmp.Lexicographic.{slice_cmp}
use Rattle.std.specs.FinMap.{nat_cmp-IsAntisymmetric, slice_cmp-IsAntisymmetric}
use Rattle.std.specs.Ordering.{nat_cmp, ordering_reverse}
use Rattle.std.specs.declared.cmp.Ordering.{Ordering}
use Rattle.std.specs.declared.cmp.Ordering.TheVariants.{Less, Equal, Greater}
use Rattle.std.proofs.lemmas.Cmp.{nat_list_cmp_total}

pub data Stands (one other : List ℕ) : Type 0 where
  before : slice_cmp nat_cmp one other ≡ Less → Stands one other
  there : one ≡ other → Stands one other
  behind : slice_cmp nat_cmp other one ≡ Less → Stands one other

pub stands : (one other : List ℕ) → Stands one other
stands one other = by (slice_cmp nat_cmp one other) refl
  where
    by : (o : Ordering) → slice_cmp nat_cmp one other ≡ o → Stands one other
    by Less is = before is
    by Equal is = there (slice_cmp-IsAntisymmetric nat_cmp-IsAntisymmetric one other is)
    by Greater is = behind (nat_list_cmp_total.antisymm other one ∙ ap ordering_reverse is)
