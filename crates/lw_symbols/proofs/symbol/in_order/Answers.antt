use Rattle.std.proofs.Common.{rules}
use Rattle.std.proofs.lemmas.List.Sorted.{answers_always}
use Rattle.lw_symbols.proofs.Sorting.{key_of, sorted_by}
use Rattle.lw_symbols.proofs.symbol.in_order.Goals as goal

pub returns-clause-ordered : goal.returns-clause-ordered
returns-clause-ordered c =
    sorted_by c.sort_by_key.new.self.items (c.in_ok-sort_by_key.ensures.sorted key_of (answers_always _ _ _ (λ f a r q k. search rules)))
