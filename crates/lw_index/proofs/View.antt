-- The documents of an index as a map, from the tree that they are kept in.
use Rattle.std.proofs.Common.{◌≡◌, ℕ, List, [], ◌∷◌, cond, Option, Some, None, refl, sym, ap, ◌∙◌}
use Rattle.std.specs.Map.{lookup}
use Rattle.std.specs.Ordering.{eq_by_cmp, nat_cmp}
use Rattle.std.specs.Cmp.{eq_by_cmp_equiv}
use Rattle.std.specs.BTreeMap as tree
use Rattle.std.specs.BTreeMap.{BTreeMap, is_at}
use Rattle.std.specs.FinMap as map
use Rattle.std.specs.FinMap.{find, get-from_entries, get-insert, get-remove, same_map, nat_cmp-IsAntisymmetric}
use Rattle.std.proofs.lemmas.Cmp.{nat_cmp_total}
use Rattle.lw_index.specs.declared.parts.Document.{Document}
use Rattle.lw_index.specs.Indexed.{Indexed}

abbrev pub shown_of : BTreeMap ℕ Document → Indexed
shown_of documents = map.from_entries {R = nat_cmp} documents.entries

find_lookup : (q : ℕ) (es : List (ℕ × Document)) → find nat_cmp q es ≡ lookup (is_at (nat_cmp q)) es
find_lookup q [] = refl
find_lookup q (e ∷ es) = ap (cond (eq_by_cmp nat_cmp q e.0) (Some e.1)) (find_lookup q es)

pub shown_get : (documents : BTreeMap ℕ Document) (q : ℕ) → map.get (shown_of documents) q ≡ tree.get nat_cmp documents q
shown_get documents q = get-from_entries nat_cmp_total documents.entries q ∙ find_lookup q documents.entries

turned_round : (k q : ℕ) (x y : Option Document) → cond (eq_by_cmp nat_cmp k q) x y ≡ cond (eq_by_cmp nat_cmp q k) x y
turned_round k q x y = ap (λ b. cond b x y) ((eq_by_cmp_equiv nat_cmp_total).symm k q)

pub shown_insert : (m n : BTreeMap ℕ Document) (k : ℕ) (v : Document) → ((q : ℕ) → tree.get nat_cmp n q ≡ cond (eq_by_cmp nat_cmp k q) (Some v) (tree.get nat_cmp m q)) → shown_of n ≡ map.insert (shown_of m) k v
shown_insert m n k v at =
    same_map nat_cmp_total nat_cmp-IsAntisymmetric _ _ (λ q.
    shown_get n q ∙ at q ∙ turned_round k q (Some v) (tree.get nat_cmp m q) ∙ ap (cond (eq_by_cmp nat_cmp q k) (Some v)) (sym (shown_get m q)) ∙ sym (get-insert nat_cmp_total (shown_of m) k v q))

pub shown_remove : (m n : BTreeMap ℕ Document) (k : ℕ) → ((q : ℕ) → tree.get nat_cmp n q ≡ cond (eq_by_cmp nat_cmp k q) None (tree.get nat_cmp m q)) → shown_of n ≡ map.remove (shown_of m) k
shown_remove m n k at =
    same_map nat_cmp_total nat_cmp-IsAntisymmetric _ _ (λ q.
    shown_get n q ∙ at q ∙ turned_round k q None (tree.get nat_cmp m q) ∙ ap (cond (eq_by_cmp nat_cmp q k) None) (sym (shown_get m q)) ∙ sym (get-remove nat_cmp_total (shown_of m) k q))
