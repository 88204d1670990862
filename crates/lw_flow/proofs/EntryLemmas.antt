-- The numbers that marks have, and the entries of visits.
use Rattle.std.proofs.Common.{◌≡◌, ◌↔◌, ◌⊎◌, ℕ, zero, suc, ◌+◌, ◌<◌, List, [], ◌∷◌, ◌++◌, take, length, get_or, Contains, refl, sym, ap, ◌∙◌, subst, inl, inr, arith, nat_cmp, Less, Equal, Greater, Ordering, length-append}
use Rattle.std.specs.Ordering.{match_ordering}
use Rattle.std.specs.BTreeSet.{insert_key}
use Rattle.std.proofs.lemmas.Map.Lookups.{exact_unsigned}
use Rattle.std.proofs.lemmas.List.{take_more}
use Rattle.std.proofs.lemmas.Option.{slice_get_within}
use Rattle.lw_flow.specs.declared.before.Before.{Before}
use Rattle.lw_flow.specs.declared.walking.Visit.{Visit}
use Rattle.lw_flow.specs.Entries.{IsEntryOf, AreEntriesOf, single_marks}
use Rattle.lw_flow.proofs.TableLemmas.{get_end}

-- ---- a number that is put in at its place

here : (k : ℕ) (ks : List ℕ) (y : ℕ) → Contains (k ∷ ks) y ↔ (Contains ks y ⊎ (y ≡ k))
here k ks y = (
  λ has. by has,
  λ either. elim either [ inl (i, inside, is) ↦ (suc i, omega (arith, inside), is) | inr is ↦ (0, omega arith, sym is) ],
)
  where
    by : Contains (k ∷ ks) y → Contains ks y ⊎ (y ≡ k)
    by (zero, inside, is) = inr (sym is)
    by (suc i, inside, is) = inl (i, omega (arith, inside), is)

pub in_sorted_key : (ks : List ℕ) (k y : ℕ) → Contains (insert_key nat_cmp ks k) y ↔ (Contains ks y ⊎ (y ≡ k))
in_sorted_key [] k y = here k [] y
in_sorted_key (x ∷ xs) k y = by (in_sorted_key xs k y) (nat_cmp k x) refl
  where
    by : Contains (insert_key nat_cmp xs k) y ↔ (Contains xs y ⊎ (y ≡ k)) → (o : Ordering) → nat_cmp k x ≡ o →
        Contains (match_ordering o (k ∷ x ∷ xs) (x ∷ xs) (x ∷ insert_key nat_cmp xs k)) y ↔ (Contains (x ∷ xs) y ⊎ (y ≡ k))
    by rest Less is = here k (x ∷ xs) y
    by rest Equal is = (
      λ has. inl has,
      λ either. elim either [ inl has ↦ has | inr same ↦ (0, omega arith, sym (same ∙ exact_unsigned k x is)) ],
    )
    by rest Greater is = (
      λ has. elim ((here x (insert_key nat_cmp xs k) y).0 has) [
        | inl later ↦ elim (rest.0 later) [ inl old ↦ inl ((here x xs y).1 (inl old)) | inr new ↦ inr new ]
        | inr same ↦ inl ((here x xs y).1 (inr same))
      ],
      λ either. elim either [
        | inl old ↦ elim ((here x xs y).0 old) [
          | inl later ↦ (here x (insert_key nat_cmp xs k) y).1 (inl (rest.1 (inl later)))
          | inr same ↦ (here x (insert_key nat_cmp xs k) y).1 (inr same)
        ]
        | inr new ↦ (here x (insert_key nat_cmp xs k) y).1 (inl (rest.1 (inr new)))
      ],
    )

-- ---- entries, one after the other

pub entries_more : (visits : List Visit) (i : ℕ) (v : Visit) (entries : List Before) (entry : Before) → i < length visits → v ≡ get_or visits i v →
    AreEntriesOf (take i visits) entries → IsEntryOf (single_marks v) entry → AreEntriesOf (take (i + 1) visits) (entries ++ entry ∷ [])
entries_more visits i v entries entry inside is before one =
    subst (λ vs. AreEntriesOf vs (entries ++ entry ∷ [])) (ap (λ u. take i visits ++ u ∷ []) is ∙ sym (take_more visits i v inside)) (record {
      all = omega (arith, length-append entries (entry ∷ []), length-append (take i visits) (v ∷ []), before.all);
      each = λ k u e at there. elim (get_end (take i visits) v k u at) [
        | inl sooner ↦ elim (get_end entries entry k e there) [
          | inl early ↦ before.each k u e sooner early
          | inr (last, _) ↦ absurd (omega (arith, last, before.all, slice_get_within (take i visits) k u sooner))
        ]
        | inr (last, same) ↦ elim (get_end entries entry k e there) [
          | inl early ↦ absurd (omega (arith, last, before.all, slice_get_within entries k e early))
          | inr (_, also) ↦ subst (IsEntryOf (single_marks u)) (sym also) (subst (λ w. IsEntryOf (single_marks w) entry) (sym same) one)
        ]
      ];
    })
