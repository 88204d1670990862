use Rattle.std.proofs.Common.{◌≡◌, ◌↔◌, ℕ, List, AllPairs, Contains, bytes_eq, subst, sym}
use Rattle.std.specs.Cmp.Lexicographic.{slice_cmp}
use Rattle.std.specs.Ordering.{nat_cmp}
use Rattle.std.specs.declared.cmp.Ordering.TheVariants.{Less}
use Rattle.std.proofs.lemmas.List.Filters.{dedup_is}
use Rattle.lw_link.proofs.NamesSorted.{names_ordered, same_names}
use Rattle.lw_complete.proofs.sorted.SortedNames.of.Goals as goal

pub invariant_of-result : goal.invariant_of-result
invariant_of-result c =
    subst (AllPairs (λ one other. slice_cmp nat_cmp one other ≡ Less)) (sym (dedup_is bytes_eq _ _ c.dedup.ensures.filtered))
    (names_ordered c.args.names.items c.sort_unstable.new.self.items c.sort_unstable.ensures.sorted)

pub returns : goal.returns
returns c =
    subst (λ (names : List (List ℕ)). (name : List ℕ) → Contains names name ↔ Contains c.args.names.items name)
    (sym (dedup_is bytes_eq _ _ c.dedup.ensures.filtered))
    (same_names c.args.names.items c.sort_unstable.new.self.items c.sort_unstable.ensures.permutation)
