use Rattle.std.proofs.Common.{rules}
use Rattle.std.proofs.lemmas.List.Sorted.{IsNonDecreasingBy-from_sort_by_key}
use Rattle.lw_matching.specs.declared.lengths.order.Ranked.{Ranked}
use Rattle.lw_matching.proofs.OrderLemmas.{sorted_order}
use Rattle.lw_matching.proofs.lengths.order.order_of.Goals as goal

pub returns : goal.returns
returns c =
    sorted_order c.args.nfa.now c.in_ok-order.order.items c.sort_by_key.new.self.items c.in_ok-order.ensures c.in_ok-sort_by_key.ensures.permutation
    (IsNonDecreasingBy-from_sort_by_key (λ (r : Ranked). r.rank) _ c.in_ok-sort_by_key.ensures.sorted (λ a r q k. search rules))
