-- A walk over the slots of one type in the order of their URIs: what still lies ahead.
use Rattle.std.proofs.Common.{◌≡◌, ◌≢◌, ℕ, ◌<◌, ◌≤◌, List, [], ◌∷◌, Bool, true, false, cond, ◌&&◌, Option, Some, None, refl, sym, ap, subst, ◌∙◌, ◌⊎◌, inl, inr, arith}
use Rattle.std.specs.declared.cmp.Ordering.{Ordering}
use Rattle.std.specs.declared.cmp.Ordering.TheVariants.{Less, Equal, Greater}
use Rattle.std.specs.declared.ops.Bound.TheVariants.{Included, Unbounded}
use Rattle.std.specs.Ordering.{nat_cmp, ordering_then, ordering_reverse, is_eq, is_gt, is_le}
use Rattle.std.specs.Cmp.{ranked, eq_by_cmp_equiv}
use Rattle.std.specs.Cmp.Lexicographic.{slice_cmp}
use Rattle.std.specs.List.{All, filter, slice_index_or}
use Rattle.std.specs.List.Sorted.{IsStrictlySortedBy}
use Rattle.std.specs.Map.{keys_of, lookup}
use Rattle.std.specs.Option.{IsSome, is_some}
use Rattle.std.specs.BTreeMap as tree
use Rattle.std.specs.BTreeMap.{is_at}
use Rattle.std.specs.BTreeMap.Range.{IsLeBy, IsRangeOf, range_contains, entries_between}
use Rattle.std.proofs.lemmas.Bool.{false≢true}
use Rattle.std.proofs.lemmas.Cmp.{tied_itself, nat_cmp_total}
use Rattle.std.proofs.lemmas.Map.{lookup-none}
use Rattle.std.proofs.lemmas.Map.Entries.{none_below_head, none_past_head, lookup-filter-keys}
use Rattle.std.proofs.lemmas.Map.Keys.{sorted_tail, IsDistinct-from_sorted}
use Rattle.std.proofs.lemmas.List.Elements.{All-head, All-tail}
use Rattle.std.proofs.lemmas.List.Kept.{IsStrictlySortedBy-filter}
use Rattle.lw_base.specs.declared.numbers.DocId.{DocId}
use Rattle.lw_index.specs.declared.exporters.Slot.{Slot}
use Rattle.lw_index.specs.declared.parts.Target.{Target}
use Rattle.lw_index.specs.Slots.{Place, place_cmp, Exporters, slot_in, filled, target_in}
use Rattle.lw_index.specs.Least.{IsLeastOf}
use Rattle.lw_index.proofs.Orders.{name_cmp_total, place_cmp_total, same_place, itself_place, by_uri, by_node}
use Rattle.lw_index.proofs.Starts.{start_first, types_rise}

abbrev Entries : Type 0
Entries = List (Place × Slot)

module _ (es : Exporters) (wanted : ℕ) (except : Option DocId) where
  -- a filled slot of the type, but not the document's that is left out
  abbrev pub Counts : List ℕ → Target → Type 0
  Counts uri x = (filled (slot_in es (wanted, uri)) ≡ Some x) × (except ≢ Some x.doc)

  pub record Ahead (rest : List (Place × Slot)) : Type 0 where
    pub sorted : IsStrictlySortedBy place_cmp (keys_of rest)
    pub within : All (λ e. wanted ≤ e.0.0) rest
    pub same : (q : Place) → IsSome (lookup (is_at (place_cmp q)) rest) → lookup (is_at (place_cmp q)) rest ≡ slot_in es q
    pub left : (uri : List ℕ) (x : Target) → Counts uri x → IsSome (lookup (is_at (place_cmp (wanted, uri))) rest)

filter_step : (p : Place → Bool) (e : Place × Slot) (rest : Entries) (b : Bool) → keys_of (cond b (e ∷ rest) rest) ≡ cond b (e.0 ∷ keys_of rest) (keys_of rest)
filter_step p e rest true = refl
filter_step p e rest false = refl

keys_filter : (p : Place → Bool) (es : Entries) → keys_of (filter (λ e. p e.0) es) ≡ filter p (keys_of es)
keys_filter p [] = refl
keys_filter p (e ∷ es) = filter_step p e (filter (λ e. p e.0) es) (p e.0) ∙ ap (λ ks. cond (p e.0) (e.0 ∷ ks) ks) (keys_filter p es)

kept_or_not : (b : Bool) (o : Option Slot) → IsSome (cond b o None) → cond b o None ≡ o
kept_or_not true o h = refl
kept_or_not false o h = absurd (false≢true h)

some_filled : (o : Option Slot) (x : Target) → filled o ≡ Some x → IsSome o
some_filled None x e = cc
some_filled (Some s) x e = refl

starts : (r : Ordering) → is_gt r ≡ false → is_le r ≡ true
starts Less h = refl
starts Equal h = refl
starts Greater h = absurd (false≢true (sym h))

and_true : (b : Bool) → b ≡ true → (b && true) ≡ true
and_true true h = refl
and_true false h = absurd (false≢true h)

-- whether a place lies in the range from a start on
abbrev lies : Place → Place → Bool
lies start q = range_contains place_cmp (Included start) Unbounded q

module _ (es : Exporters) (wanted : ℕ) (start : Place) (rest : List (Place × Slot)) (is : rest ≡ entries_between place_cmp (Included start) Unbounded es.entries) where
  found : (q : Place) → lookup (is_at (place_cmp q)) rest ≡ cond (lies start q) (slot_in es q) None
  found q = ap (lookup (is_at (place_cmp q))) is ∙ lookup-filter-keys (is_at (place_cmp q)) (lies start) (lies start q) (λ k e. ap (lies start) (sym (same_place q k e))) es.entries

  from_start : (uri : List ℕ) → start ≡ (wanted, []) → lies start (wanted, uri) ≡ true
  from_start uri at = and_true _ (subst (λ s. is_le (place_cmp s (wanted, uri)) ≡ true) (sym at) (starts _ (start_first wanted wanted uri (omega arith))))

  -- at the start of a range all lies ahead
  pub ahead_of_range : (except : Option DocId) → start ≡ (wanted, []) → tree.IsOrdered place_cmp es → IsRangeOf place_cmp (Included start) Unbounded es rest → Ahead es wanted except rest
  ahead_of_range except at ordered range = record {
    sorted = subst (λ r. IsStrictlySortedBy place_cmp (keys_of r)) (sym is)
        (subst (IsStrictlySortedBy place_cmp) (sym (keys_filter (lies start) es.entries)) (IsStrictlySortedBy-filter place_cmp (lies start) (keys_of es.entries) ordered));
    within = λ k d h. types_rise (wanted, []) (slice_index_or rest k d).0 (subst (λ s. IsLeBy place_cmp s (slice_index_or rest k d).0) at (range.0 k d h).0.0);
    same = λ q h. found q ∙ kept_or_not (lies start q) (slot_in es q) (subst IsSome (found q) h);
    left = λ uri x c. subst IsSome (sym (found (wanted, uri) ∙ ap (λ b. cond b (slot_in es (wanted, uri)) None) (from_start uri at))) (some_filled _ x c.0);
  }

-- ---- the first of what lies ahead

same_Some : (x y : Target) → Some x ≡ Some y → x ≡ y
same_Some x y h = cc

by_second : (a b : ℕ) → a ≡ b → (r : Ordering) → ordering_then (nat_cmp a b) r ≡ Less → r ≡ Less
by_second a b same r e = sym (ap (λ s. ordering_then s r) (ap (nat_cmp a) (sym same) ∙ tied_itself nat_cmp_total a)) ∙ e

module _ (es : Exporters) (wanted : ℕ) (except : Option DocId) (e : Place × Slot) (rest : List (Place × Slot)) (ahead : Ahead es wanted except (e ∷ rest)) where
  here : slot_in es e.0 ≡ Some e.1
  here =
      let at : lookup (is_at (place_cmp e.0)) (e ∷ rest) ≡ Some e.1 = ap (λ b. cond b (Some e.1) (lookup (is_at (place_cmp e.0)) rest)) (itself_place e.0) in
      sym (ahead.same e.0 (ap is_some at)) ∙ at

  -- nothing comes before it
  not_before : (q : Place) → place_cmp q e.0 ≡ Less → IsSome (lookup (is_at (place_cmp q)) (e ∷ rest)) → ⊥
  not_before q less found = false≢true (sym (ap is_some (lookup-none _ (e ∷ rest) (none_below_head place_cmp_total q e rest ahead.sorted less))) ∙ found)

  -- where it is of another type, nothing of the wanted one lies ahead
  pub none_beyond : (e.0.0 ≡ wanted → ⊥) → (uri : List ℕ) (x : Target) → ¬ (Counts es wanted except uri x)
  none_beyond other uri x counts =
      let le = All-head (λ (d : Place × Slot). wanted ≤ d.0.0) e rest ahead.within in
      not_before (wanted, uri) (by (nat_cmp wanted e.0.0) refl (omega arith)) (ahead.left uri x counts)
    where
      by : (r : Ordering) → r ≡ nat_cmp wanted e.0.0 → wanted < e.0.0 → ordering_then r (slice_cmp nat_cmp uri e.0.1) ≡ Less
      by Less is lt = refl
      by Equal is lt = absurd (omega (arith, ranked wanted e.0.0 Equal is))
      by Greater is lt = absurd (omega (arith, ranked wanted e.0.0 Greater is))

  -- what lies ahead behind it
  later : (q : Place) (b : Bool) → is_at (place_cmp q) e.0 ≡ b → IsSome (cond b (Some e.1) (lookup (is_at (place_cmp q)) rest)) → (q ≡ e.0) ⊎ IsSome (lookup (is_at (place_cmp q)) rest)
  later q true is found = inl (same_place q e.0 is)
  later q false is found = inr found

  -- its place does not come twice
  none_twice : (q : Place) → is_at (place_cmp q) e.0 ≡ true → IsSome (lookup (is_at (place_cmp q)) rest) → ⊥
  none_twice q is found =
      false≢true (sym (ap is_some (lookup-none _ rest (none_past_head (eq_by_cmp_equiv place_cmp_total) q e rest (IsDistinct-from_sorted place_cmp (keys_of (e ∷ rest)) ahead.sorted) is))) ∙ found)

  behind_too : (q : Place) (b : Bool) → is_at (place_cmp q) e.0 ≡ b → IsSome (lookup (is_at (place_cmp q)) rest) → IsSome (cond b (Some e.1) (lookup (is_at (place_cmp q)) rest))
  behind_too q true is found = refl
  behind_too q false is found = found

  -- it is passed over where it does not count
  pub ahead_behind : ((x : Target) → target_in e.1 ≡ Some x → except ≡ Some x.doc) → Ahead es wanted except rest
  ahead_behind passed = record {
    sorted = sorted_tail place_cmp e.0 (keys_of rest) ahead.sorted;
    within = All-tail (λ (d : Place × Slot). wanted ≤ d.0.0) e rest ahead.within;
    same = λ q found. still q (is_at (place_cmp q) e.0) refl found;
    left = λ uri x counts. elim (later (wanted, uri) _ refl (ahead.left uri x counts)) [
      | inl at ↦ absurd (counts.1 (passed x (sym (ap filled here) ∙ ap (λ q. filled (slot_in es q)) (sym at) ∙ counts.0)))
      | inr found ↦ found
    ];
  }
    where
      still : (q : Place) (b : Bool) → is_at (place_cmp q) e.0 ≡ b → IsSome (lookup (is_at (place_cmp q)) rest) → lookup (is_at (place_cmp q)) rest ≡ slot_in es q
      still q true is found = absurd (none_twice q is found)
      still q false is found =
          let at : lookup (is_at (place_cmp q)) (e ∷ rest) ≡ lookup (is_at (place_cmp q)) rest = ap (λ b. cond b (Some e.1) (lookup (is_at (place_cmp q)) rest)) is in
          sym at ∙ ahead.same q (subst IsSome (sym at) found)

  -- it is the least where it counts
  pub least_here : e.0.0 ≡ wanted → (x : Target) → target_in e.1 ≡ Some x → except ≢ Some x.doc → IsLeastOf (Counts es wanted except) (e.0.1, x)
  least_here type x is other = record {
    here = (ap (λ t. filled (slot_in es (t, e.0.1))) (sym type) ∙ ap filled here ∙ is, other);
    least = λ uri y counts. elim (later (wanted, uri) _ refl (ahead.left uri y counts)) [
      | inl at ↦ by_node e.0.1 uri x.node.0 y.node.0 (ap (λ (q : Place). slice_cmp nat_cmp e.0.1 q.1) at ∙ tied_itself name_cmp_total e.0.1)
          (omega (arith, ap (λ (z : Target). z.node.0) (same_Some _ _ (sym is ∙ sym (ap filled here) ∙ ap (λ q. filled (slot_in es q)) (sym at) ∙ counts.0))))
      | inr found ↦ by_uri e.0.1 uri x.node.0 y.node.0 (behind uri (place_cmp e.0 (wanted, uri)) refl found)
    ];
  }
    where
      behind : (uri : List ℕ) (r : Ordering) → place_cmp e.0 (wanted, uri) ≡ r → IsSome (lookup (is_at (place_cmp (wanted, uri))) rest) → slice_cmp nat_cmp e.0.1 uri ≡ Less
      behind uri Less is found = by_second e.0.0 wanted type (slice_cmp nat_cmp e.0.1 uri) is
      behind uri Equal is found = absurd (none_twice (wanted, uri) (ap is_eq (place_cmp_total.antisymm (wanted, uri) e.0 ∙ ap ordering_reverse is)) found)
      behind uri Greater is found = absurd (not_before (wanted, uri) (place_cmp_total.antisymm (wanted, uri) e.0 ∙ ap ordering_reverse is) (behind_too (wanted, uri) _ refl found))
