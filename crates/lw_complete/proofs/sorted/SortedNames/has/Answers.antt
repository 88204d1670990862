use Rattle.std.proofs.Common.{◌≡◌, ◌↔◌, ℕ, List, IsTrue, AllPairs, Contains, sym, subst, ◌∙◌}
use Rattle.std.specs.Cmp.Lexicographic.{slice_cmp}
use Rattle.std.specs.Ordering.{nat_cmp}
use Rattle.std.specs.declared.cmp.Ordering.TheVariants.{Less}
use Rattle.lw_complete.proofs.NamesFound.{found_by_halves}
use Rattle.lw_complete.proofs.sorted.SortedNames.has.Goals as goal

pub returns : goal.returns
returns c =
    let up = subst (AllPairs (λ one other. slice_cmp nat_cmp one other ≡ Less)) (sym c.as_slice.ensures.value) c.self.invariant in
    subst (λ (names : List (List ℕ)). IsTrue c.is_ok.result ↔ Contains names c.args.name.now) (c.as_slice.ensures.value ∙ c.self.view_is)
    (found_by_halves c.as_slice.result.now c.args.name.now up c.binary_search.result c.is_ok.result c.is_ok.ensures.value c.binary_search.ensures.bound
    c.binary_search.ensures.position)
