use Rattle.std.proofs.Common.{◌≡◌, MatchOption, Some, slice_get, Contains, sym, ap, ◌∙◌, subst, rules}
use Rattle.std.specs.Ordering.{nat_cmp}
use Rattle.std.specs.List.Sorted.{IsBinarySearchResult}
use Rattle.std.proofs.lemmas.List.Sorted.{answers_always}
use Rattle.lw_kinds.proofs.TerminalNumbers.{number_by}
use Rattle.lw_kinds.proofs.kind_table.KindTable.number_of.Goals as goal

pub returns-clause-place : goal.returns-clause-place
returns-clause-place c g are =
    let place = c.args.place in
    let places = c.args.self.now.terminals in
    let same = c.as_slice.ensures.value ∙ ap (λ row. row.terminals) c.self.view_is in
    let result = c.binary_search_by_key.result in
    subst (λ r. MatchOption r (¬ Contains places place) (λ number. slice_get places number ≡ Some place)) (sym c.ok.ensures.value)
    (number_by places place result are.ascending (subst (λ xs. IsBinarySearchResult (λ y. nat_cmp y place) xs result) same
    (c.binary_search_by_key.ensures.position (λ other. other) (answers_always _ _ _ (λ f a r g called. search rules)))))
