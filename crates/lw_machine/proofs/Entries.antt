-- The entries of documents: their addresses rise, and each document is held at its address.
use Rattle.std.proofs.Common.{◌≡◌, ℕ, List, [], ◌∷◌, map, Bool, true, false, cond, ◌&&◌, T, Some, Ordering, Less, Equal, Greater, is_eq, is_lt, refl, ap, ◌∙◌}
use Rattle.std.specs.Ordering.{ordering_reverse}
use Rattle.std.specs.Cmp.Lexicographic.{nat_list_cmp_total}
use Rattle.std.specs.FinMap.{get, entries, find, is_sorted, entries_sorted, get-entries}
use Rattle.std.specs.FinMap.Entries.{below_all}
use Rattle.lw_machine.specs.Documents.{Document, Documents}
use Rattle.lw_machine.proofs.Places.{order, test_same, Among, first, later}

pub both : (a b : Bool) → T (a && b) → T a × T b
both true b h = (tt, h)
both false b h = absurd h

-- an address above the first is not the first
pub above : (a b : List ℕ) → T (is_lt (order a b)) → is_eq (order b a) ≡ false
above a b below = by (order a b) refl below
  where
    by : (r : Ordering) → order a b ≡ r → T (is_lt r) → is_eq (order b a) ≡ false
    by Less is low = ap is_eq (nat_list_cmp_total.antisymm b a ∙ ap ordering_reverse is)
    by Equal is low = absurd low
    by Greater is low = absurd low

pub below_each : (a : List ℕ) (es : List (List ℕ × Document)) (b : List ℕ) → T (below_all order a es) → Among b (map (λ e. e.0) es) → T (is_lt (order a b))
below_each a [] b below there = elim there [ ]
below_each a (e ∷ es) b below first = (both (is_lt (order a e.0)) (below_all order a es) below).0
below_each a (e ∷ es) b below (later there) = below_each a es b (both (is_lt (order a e.0)) (below_all order a es) below).1 there

pub among_keys : (a : List ℕ) (d : Document) (es : List (List ℕ × Document)) → Among (a, d) es → Among a (map (λ e. e.0) es)
among_keys a d es first = first
among_keys a d es (later {xs = rest} there) = later (among_keys a d rest there)

entry_found : (a : List ℕ) (d : Document) (es : List (List ℕ × Document)) → T (is_sorted order es) → Among (a, d) es → find order a es ≡ Some d
entry_found a d es sorted (first {xs = rest}) = ap (λ b. cond b (Some d) (find order a rest)) (test_same a)
entry_found a d es sorted (later {y = e} {xs = rest} there) =
    let parts = both (below_all order e.0 rest) (is_sorted order rest) sorted in
    ap (λ b. cond b (Some e.1) (find order a rest)) (above e.0 a (below_each e.0 rest a parts.0 (among_keys a d rest there)))
    ∙ entry_found a d rest parts.1 there

pub entry_held : (m : Documents) (a : List ℕ) (d : Document) → Among (a, d) (entries m) → get m a ≡ Some d
entry_held m a d there = get-entries m a ∙ entry_found a d (entries m) (entries_sorted m) there
