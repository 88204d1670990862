-- Symbols that were sorted are in order.
use Rattle.std.proofs.Common.{ℕ, List, get_or, nat_cmp}
use Rattle.std.specs.Cmp.{IsTotalOrder, then_total, on_total, nat_cmp_total}
use Rattle.std.specs.List.Sorted.{IsSortedByKey}
use Rattle.std.specs.Ordering.{ordering_then}
use Rattle.std.specs.declared.cmp.Ordering.{Ordering}
use Rattle.std.proofs.lemmas.List.Sorted.{ranks_by, sorted_far}
use Rattle.lw_symbols.specs.declared.symbol.Symbol.{Symbol}
use Rattle.lw_symbols.specs.Symbols.{AreSymbolsSorted}
use Rattle.lw_symbols.proofs.Order.{sort_lt, up_to}

abbrev Key : Type 0
Key = ℕ × ℕ × ℕ × ℕ

abbrev pub key_of : Symbol → Key
key_of s = (s.hash, s.container.0, s.type_id.0, s.node.0)

abbrev pub key_cmp : Key → Key → Ordering
key_cmp x y = ordering_then (ordering_then (ordering_then (nat_cmp x.0 y.0) (nat_cmp x.1 y.1)) (nat_cmp x.2 y.2)) (nat_cmp x.3 y.3)

keys_total : IsTotalOrder key_cmp
keys_total =
    then_total (then_total (then_total (on_total (λ (k : Key). k.0) nat_cmp_total) (on_total (λ (k : Key). k.1) nat_cmp_total))
    (on_total (λ (k : Key). k.2) nat_cmp_total)) (on_total (λ (k : Key). k.3) nat_cmp_total)

pub sorted_by : (symbols : List Symbol) → IsSortedByKey key_of key_cmp symbols → AreSymbolsSorted symbols
sorted_by symbols sorted i j d le lt =
    up_to (get_or symbols i d) (get_or symbols j d) (sorted_far sort_lt (ranks_by keys_total key_of) symbols sorted i j d le lt)
