use Rattle.std.proofs.Common.{◌≡◌, ◌↔◌, ℕ, List, AllPairs, Contains, bytes_eq, subst, sym}
use Rattle.std.specs.Cmp.Lexicographic.{slice_cmp}
use Rattle.std.specs.List.{dedup}
use Rattle.std.specs.Ordering.{nat_cmp}
use Rattle.std.specs.declared.cmp.Ordering.TheVariants.{Less}
use Rattle.std.proofs.lemmas.List.Filters.{dedup_is}
use Rattle.lw_link.proofs.NamesSorted.{names_ordered, same_names}
use Rattle.lw_link.proofs.targets.in_order.Goals as goal

pub returns-clause-exact : goal.returns-clause-exact
returns-clause-exact c =
    let found = c.args.names.items in
    let sorted = c.sort_unstable.new.self.items in
    let kept : c.dedup.new.self.items ≡ dedup bytes_eq sorted = dedup_is bytes_eq _ _ c.dedup.ensures.filtered in
    subst (λ (names : List (List ℕ)). (name : List ℕ) → Contains names name ↔ Contains found name) (sym kept)
    (same_names found sorted c.sort_unstable.ensures.permutation)

pub returns-clause-ordered : goal.returns-clause-ordered
returns-clause-ordered c =
    let sorted = c.sort_unstable.new.self.items in
    let kept : c.dedup.new.self.items ≡ dedup bytes_eq sorted = dedup_is bytes_eq _ _ c.dedup.ensures.filtered in
    subst (AllPairs (λ one other. slice_cmp nat_cmp one other ≡ Less)) (sym kept) (names_ordered c.args.names.items sorted c.sort_unstable.ensures.sorted)
