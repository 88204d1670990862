-- The values in the order of finishing, named by number, are at each property of each node those of the tree.
use Rattle.std.proofs.Common.{ℕ, Bool, true, false, ◌==◌, ◌&&◌, ◌≡◌, ◌≢◌, ◌+◌, ◌-◌, ◌<◌, ◌⊎◌, inl, inr, ⊎_elim, List, [], ◌∷◌, ◌++◌, map, refl, sym, ap, ◌∙◌, arith}
use Rattle.std.specs.Prelude.{slice_index, if◌then◌else◌}
use Rattle.std.proofs.lemmas.Bool.{cases_eq}
use Rattle.std.proofs.lemmas.Bool.Decides.{nat_tests}
use Rattle.std.proofs.lemmas.List.{map-append, append-nil}
use Rattle.lw_base.specs.declared.numbers.NodeId.{NodeId}
use Rattle.lw_base.specs.declared.numbers.PropId.{PropId}
use Rattle.lw_tree.specs.declared.node.Value.{Value}
use Rattle.lw_tree.specs.declared.node.Value.TheVariants.{Child, Refers}
use Rattle.lw_tree.specs.Parts.{values_at}
use Rattle.lw_reading.specs.Grown.{Plain, Text, Number, Huge, Raw, Truth, as_value, Grown, Grow, Held, Nothing, Puts, Takes, Points, size, size_of}
use Rattle.lw_reading.specs.Trees.{points_of, own as own_values, values, values_of}
use Rattle.lw_builder.specs.Finishing.{numbers, numbers_of}
use Rattle.lw_builder.specs.Tables.{put_in, owned, stored, stored_in}
use Rattle.lw_builder.specs.Renaming.{value_by_number, entry_by_number}
use Rattle.lw_builder.proofs.Each.{Each}
use Rattle.lw_builder.proofs.TreeNumbers.{Reads}
use Rattle.lw_builder.proofs.PreorderLengths.{size_positive}
use Rattle.lw_builder.proofs.PartNumbers.{last_reads, front_reads, back_reads, inside_reads, own_reads}
use Rattle.lw_builder.proofs.Joining.{joined, Entry, owned-push}

plain_stays : (ns : List ℕ) (v : Plain) → value_by_number ns (as_value v) ≡ as_value v
plain_stays ns (Text text s) = refl
plain_stays ns (Number n s) = refl
plain_stays ns (Huge s) = refl
plain_stays ns (Raw text s) = refl
plain_stays ns (Truth s) = refl

pushed : (ns : List ℕ) (o : NodeId) (xs : List (PropId × Value)) (e : PropId × Value) (these : List Entry) (new : Entry) →
    map (entry_by_number ns) (owned o xs) ≡ these → entry_by_number ns (o, e.0, e.1) ≡ new →
    map (entry_by_number ns) (owned o (xs ++ e ∷ [])) ≡ these ++ new ∷ []
pushed ns o xs e these new before is =
    ap (map (entry_by_number ns)) (owned-push o xs e) ∙ map-append (entry_by_number ns) (owned o xs) ((o, e.0, e.1) ∷ [])
    ∙ joined before (ap (λ y. y ∷ []) is)

named_entry : (ns : List ℕ) (o n p : ℕ) (v w : Value) → slice_index ns o ≡ n → value_by_number ns v ≡ w →
    entry_by_number ns (record { 0 = o }, record { 0 = p }, v) ≡ (record { 0 = n }, record { 0 = p }, w)
named_entry ns o n p v w e f = ap (λ i. entry_with i (value_by_number ns v)) e ∙ ap (λ u. entry_with n u) f where
  entry_with : ℕ → Value → Entry
  entry_with i u = (record { 0 = i }, record { 0 = p }, u)

own_named : (ns : List ℕ) (b o n m r : ℕ) (held : Held) → slice_index ns o ≡ n → Each (Reads ns) b (numbers_of m held) →
    map (entry_by_number ns) (owned (record { 0 = o }) (put_in b r held)) ≡ own_values n m r held
own_named ns b o n m r Nothing value reads = refl
own_named ns b o n m r (Puts held p v) value reads =
    pushed ns (record { 0 = o }) (put_in b r held) (record { 0 = p }, as_value v) (own_values n m r held) (record { 0 = n }, record { 0 = p }, as_value v)
    (own_named ns b o n m r held value reads) (named_entry ns o n p (as_value v) (as_value v) value (plain_stays ns v))
own_named ns b o n m r (Points held p want name s) value reads =
    let v : Value = Refers (record { 0 = r + points_of held }) in
    pushed ns (record { 0 = o }) (put_in b r held) (record { 0 = p }, v) (own_values n m r held) (record { 0 = n }, record { 0 = p }, v)
    (own_named ns b o n m r held value reads) (named_entry ns o n p v v value refl)
own_named ns b o n m r (Takes held p x) value reads =
    let last : ℕ = b + size_of held + size x - 1 in
    let v : Value = Child (record { 0 = last }) in
    let w : Value = Child (record { 0 = m + size_of held }) in
    let there : slice_index ns last ≡ m + size_of held =
    last_reads ns (b + size_of held) (m + size_of held) x last (omega (arith, size_positive x)) (back_reads ns b m held x reads) in
    pushed ns (record { 0 = o }) (put_in b r held) (record { 0 = p }, v) (own_values n m r held) (record { 0 = n }, record { 0 = p }, w)
    (own_named ns b o n m r held value (front_reads ns b m held x reads))
    (named_entry ns o n p v w value (ap (λ (i : ℕ). Child (record { 0 = i })) there))

-- the values at a node's property
picked : (t : Bool) (v : Value) (a b c : List Value) → a ≡ b ++ c → (if t then v ∷ a else a) ≡ (if t then v ∷ b else b) ++ c
picked true v a b c e = ap (λ l. v ∷ l) e
picked false v a b c e = e

values_at-append : (k q : ℕ) (xs ys : List Entry) → values_at k q (xs ++ ys) ≡ values_at k q xs ++ values_at k q ys
values_at-append k q [] ys = refl
values_at-append k q (x ∷ xs) ys =
    picked ((x.0.0 == k) && (x.1.0 == q)) x.2 (values_at k q (xs ++ ys)) (values_at k q xs) (values_at k q ys) (values_at-append k q xs ys)

neither : (k q : ℕ) (xs ys : List Entry) → values_at k q xs ≡ [] → values_at k q ys ≡ [] → values_at k q (xs ++ ys) ≡ []
neither k q xs ys e f = values_at-append k q xs ys ∙ joined e f

other_node : (n k p q : ℕ) → n ≢ k → ((n == k) && (p == q)) ≡ false
other_node n k p q ne = grind (arith, nat_tests)

at_other : (k q n p : ℕ) (v : Value) → n ≢ k → values_at k q ((record { 0 = n }, record { 0 = p }, v) ∷ []) ≡ []
at_other k q n p v ne = rw (other_node n k p q ne) refl

other_own : (k q n m r : ℕ) (held : Held) → n ≢ k → values_at k q (own_values n m r held) ≡ []
other_own k q n m r Nothing ne = refl
other_own k q n m r (Puts held p v) ne =
    neither k q (own_values n m r held) ((record { 0 = n }, record { 0 = p }, as_value v) ∷ []) (other_own k q n m r held ne) (at_other k q n p (as_value v) ne)
other_own k q n m r (Points held p want name s) ne =
    let v : Value = Refers (record { 0 = r + points_of held }) in
    neither k q (own_values n m r held) ((record { 0 = n }, record { 0 = p }, v) ∷ []) (other_own k q n m r held ne) (at_other k q n p v ne)
other_own k q n m r (Takes held p x) ne =
    let v : Value = Child (record { 0 = m + size_of held }) in
    neither k q (own_values n m r held) ((record { 0 = n }, record { 0 = p }, v) ∷ []) (other_own k q n m r held ne) (at_other k q n p v ne)

-- no node before the first holds any
mutual
  none_grown : (k q n r : ℕ) (x : Grown) → k < n → values_at k q (values n r x) ≡ []
  none_grown k q n r (Grow t s held) lt =
      neither k q (own_values n (n + 1) r held) (values_of (n + 1) r held) (other_own k q n (n + 1) r held (omega (arith, lt)))
      (none_held k q (n + 1) r held (omega (arith, lt)))

  none_held : (k q n r : ℕ) (held : Held) → k < n → values_at k q (values_of n r held) ≡ []
  none_held k q n r Nothing lt = refl
  none_held k q n r (Puts held p v) lt = none_held k q n r held lt
  none_held k q n r (Points held p want name s) lt = none_held k q n r held lt
  none_held k q n r (Takes held p x) lt =
      neither k q (values_of n r held) (values (n + size_of held) (r + points_of held) x) (none_held k q n r held lt)
      (none_grown k q (n + size_of held) (r + points_of held) x (omega (arith, lt)))

-- what is inside a node may be listed before its own, since no node has values in both
moved : (k q : ℕ) (inside own these : List Entry) → values_at k q inside ≡ values_at k q these → (values_at k q own ≡ []) ⊎ (values_at k q these ≡ []) →
    values_at k q (inside ++ own) ≡ values_at k q (own ++ these)
moved k q inside own these e one = values_at-append k q inside own ∙ ap (λ l. l ++ values_at k q own) e
    ∙ ⊎_elim (λ none. rw none (append-nil (values_at k q these))) (λ none. rw none (sym (append-nil (values_at k q own)))) one
    ∙ sym (values_at-append k q own these)

mutual
  values_grown : (k q : ℕ) (ns : List ℕ) (b n r : ℕ) (x : Grown) → Each (Reads ns) b (numbers n x) →
      values_at k q (map (entry_by_number ns) (stored b r x)) ≡ values_at k q (values n r x)
  values_grown k q ns b n r (Grow t s held) reads =
      let f : Entry → Entry = entry_by_number ns in
      let inside : List Entry = stored_in b r held in
      let mine : List Entry = owned (record { 0 = b + size_of held }) (put_in b r held) in
      let named : map f mine ≡ own_values n (n + 1) r held = own_named ns b (b + size_of held) n (n + 1) r held (own_reads ns b n held reads) (inside_reads ns b n held reads) in
      ap (values_at k q) (map-append f inside mine ∙ ap (λ l. map f inside ++ l) named)
      ∙ moved k q (map f inside) (own_values n (n + 1) r held) (values_of (n + 1) r held)
      (values_held k q ns b (n + 1) r held (inside_reads ns b n held reads))
      (⊎_elim (λ same. inr (none_held k q (n + 1) r held (omega (arith, same)))) (λ other. inl (other_own k q n (n + 1) r held other)) (cases_eq n k))

  values_held : (k q : ℕ) (ns : List ℕ) (b n r : ℕ) (held : Held) → Each (Reads ns) b (numbers_of n held) →
      values_at k q (map (entry_by_number ns) (stored_in b r held)) ≡ values_at k q (values_of n r held)
  values_held k q ns b n r Nothing reads = refl
  values_held k q ns b n r (Puts held p v) reads = values_held k q ns b n r held reads
  values_held k q ns b n r (Points held p want name s) reads = values_held k q ns b n r held reads
  values_held k q ns b n r (Takes held p x) reads =
      let f : Entry → Entry = entry_by_number ns in
      let before : List Entry = stored_in b r held in
      let those : List Entry = stored (b + size_of held) (r + points_of held) x in
      ap (values_at k q) (map-append f before those) ∙ values_at-append k q (map f before) (map f those)
      ∙ joined
      (values_held k q ns b n r held (front_reads ns b n held x reads))
      (values_grown k q ns (b + size_of held) (n + size_of held) (r + points_of held) x (back_reads ns b n held x reads))
      ∙ sym (values_at-append k q (values_of n r held) (values (n + size_of held) (r + points_of held) x))

pub values_named : (k q : ℕ) (ns : List ℕ) (x : Grown) → Each (Reads ns) 0 (numbers 0 x) →
    values_at k q (map (entry_by_number ns) (stored 0 0 x)) ≡ values_at k q (values 0 0 x)
values_named k q ns x reads = values_grown k q ns 0 0 0 x reads
