-- The rows of the table, and the flags of a set, number by number.
use Rattle.std.proofs.Common.{◌≡◌, ℕ, ◌+◌, ◌<◌, ◌≤◌, Bool, true, IsTrue, List, [], ◌∷◌, ◌++◌, Some, length, get_or, slice_get, Contains, ◌⊎◌, ◌↔◌, inl, inr, sym, ap, ◌∙◌, subst, arith}
use Rattle.std.proofs.lemmas.Bool.{cases_order, cases_lt}
use Rattle.std.proofs.lemmas.List.{length-append, get_or_append_left}
use Rattle.std.proofs.lemmas.List.Elements.{Contains-append_left, Contains-append_right, Contains-append_cases}
use Rattle.std.proofs.lemmas.Option.{slice_get_within, slice_get-get_or, same_Some}
use Rattle.std.proofs.Math.Seq.{get_or-append_seam}
use Rattle.lw_graph.specs.Walks.{Links, Walks, HasNode, IsReachedFrom}
use Rattle.lw_numbers.specs.Above.{IsRow, AreRows}
use Rattle.lw_numbers.specs.Ascending.{IsAscending}
use Rattle.lw_numbers.specs.Makers.{Shows}
use Rattle.lw_base.proofs.Lists.{first_or_later, get_or_any, the_first}

-- an item of a list with one more behind it
cases_last : (xs : List ℕ) (x y : ℕ) → Contains (xs ++ x ∷ []) y → Contains xs y ⊎ (x ≡ y)
cases_last xs x y has = elim (Contains-append_cases xs (x ∷ []) y has) [
  | inl old ↦ inl old
  | inr new ↦ elim (first_or_later x [] new) [ inl equal ↦ inr equal | inr later ↦ absurd (omega (arith, later.1)) ]
]

-- one more number behind ascending ones that are all less
ascends_more : (xs : List ℕ) (x : ℕ) → IsAscending xs → ((y : ℕ) → Contains xs y → y < x) → IsAscending (xs ++ x ∷ [])
ascends_more xs x ascends less i j before inside = by (cases_lt j (length xs))
  where
    by : (j < length xs) ⊎ (length xs ≤ j) → get_or (xs ++ x ∷ []) i 0 < get_or (xs ++ x ∷ []) j 0
    by (inl old) = omega (arith, ascends i j before old, get_or_append_left xs (x ∷ []) 0 i (omega arith), get_or_append_left xs (x ∷ []) 0 j old)
    by (inr last) =
        let at_end : j ≡ length xs = omega (arith, length-append xs (x ∷ [])) in
        let front : i < length xs = omega arith in
        let seam : get_or (xs ++ x ∷ []) j 0 ≡ x = ap (λ n. get_or (xs ++ x ∷ []) n 0) at_end ∙ get_or-append_seam xs x [] 0 in
        omega (arith, less (get_or xs i 0) (i, front, get_or_any xs i (get_or xs i 0) 0 front), get_or_append_left xs (x ∷ []) 0 i front, seam)

module _ (graph : Links) (from : ℕ) where
  pub row_more : (count : ℕ) (row : List ℕ) → IsRow graph count from row → Walks graph from count → IsRow graph (count + 1) from (row ++ count ∷ [])
  row_more count row is walks = record {
    each = λ n. (
      λ has. elim (cases_last row count n has) [
        | inl old ↦ let was = (is.each n).0 old in (omega (arith, was.0), was.1)
        | inr equal ↦ (omega arith, subst (Walks graph from) equal walks)
      ],
      λ reached. elim (cases_order n count) [
        | inl equal ↦ Contains-append_right row (count ∷ []) n (subst (Contains (count ∷ [])) (sym equal) (the_first count []))
        | inr (inl less) ↦ Contains-append_left row (count ∷ []) n ((is.each n).1 (less, reached.1))
        | inr (inr more) ↦ absurd (omega (arith, reached.0))
      ],
    );
    ascending = ascends_more row count is.ascending (λ y has. ((is.each y).0 has).0);
  }

  pub row_same : (count : ℕ) (row : List ℕ) → IsRow graph count from row → ¬ Walks graph from count → IsRow graph (count + 1) from row
  row_same count row is none = record {
    each = λ n. (
      λ has. let was = (is.each n).0 has in (omega (arith, was.0), was.1),
      λ reached. elim (cases_order n count) [
        | inl equal ↦ absurd (none (subst (Walks graph from) equal reached.1))
        | inr (inl less) ↦ (is.each n).1 (less, reached.1)
        | inr (inr more) ↦ absurd (omega (arith, reached.0))
      ],
    );
    ascending = is.ascending;
  }

-- what is reached from one node
pub reached_from_one : (graph : Links) (from n : ℕ) → IsReachedFrom graph (from ∷ []) n ↔ Walks graph from n
reached_from_one graph from n = (
  λ reached. elim (first_or_later from [] reached.1) [
    | inl equal ↦ subst (λ start. Walks graph start n) (sym equal) reached.2
    | inr later ↦ absurd (omega (arith, later.1))
  ],
  λ walks. (from, the_first from [], walks),
)

module _ (graph : Links) (count : ℕ) where
  pub rows_more : (first : ℕ) (rows : List (List ℕ)) (row : List ℕ) → AreRows graph count first rows → IsRow graph count first row → AreRows graph count (first + 1) (rows ++ row ∷ [])
  rows_more first rows row are is = record {
    all = omega (arith, length-append rows (row ∷ []), are.all);
    rows_are = λ from other at. by from other at (cases_lt from (length rows));
  }
    where
      by : (from : ℕ) (other : List ℕ) → slice_get (rows ++ row ∷ []) from ≡ Some other → (from < length rows) ⊎ (length rows ≤ from) → IsRow graph count from other
      by from other at (inl old) = are.rows_are from other (slice_get-get_or rows from other old ∙ ap Some (sym (get_or_append_left rows (row ∷ []) other from old))
          ∙ sym (slice_get-get_or (rows ++ row ∷ []) from other (slice_get_within (rows ++ row ∷ []) from other at)) ∙ at)
      by from other at (inr last) =
          let inside = slice_get_within (rows ++ row ∷ []) from other at in
          let at_end : from ≡ length rows = omega (arith, length-append rows (row ∷ []), inside) in
          let equal : row ≡ other = same_Some row other (
          ap Some (sym (ap (λ n. get_or (rows ++ row ∷ []) n row) at_end ∙ get_or-append_seam rows row [] row))
          ∙ sym (slice_get-get_or (rows ++ row ∷ []) from row inside) ∙ at
          ) in
          subst (IsRow graph count from) equal (subst (λ n. IsRow graph count n row) (sym (at_end ∙ are.all)) is)

-- one flag more behind those of the first so many nodes
pub shows_more : (met : List Bool) (count : ℕ) (flags : List Bool) (held : Bool) → Shows met count flags → (IsTrue held ↔ HasNode met count) →
    Shows met (count + 1) (flags ++ held ∷ [])
shows_more met count flags held is tells = record {
  all = omega (arith, length-append flags (held ∷ []), is.all);
  each = λ n inside. by n inside (cases_lt n count);
}
  where
    by : (n : ℕ) → n < count + 1 → (n < count) ⊎ (count ≤ n) → HasNode met n ↔ (slice_get (flags ++ held ∷ []) n ≡ Some true)
    by n inside (inl old) =
        let before : n < length flags = omega (arith, is.all) in
        let within : n < length (flags ++ held ∷ []) = omega (arith, length-append flags (held ∷ [])) in
        let kept = slice_get-get_or flags n true before ∙ ap Some (sym (get_or_append_left flags (held ∷ []) true n before))
        ∙ sym (slice_get-get_or (flags ++ held ∷ []) n true within) in
        subst (λ flag. HasNode met n ↔ (flag ≡ Some true)) kept (is.each n old)
    by n inside (inr last) =
        let equal : n ≡ count = omega arith in
        let at_end : n ≡ length flags = omega (arith, is.all) in
        let within : n < length (flags ++ held ∷ []) = omega (arith, length-append flags (held ∷ [])) in
        let at = slice_get-get_or (flags ++ held ∷ []) n true within
        ∙ ap Some (ap (λ k. get_or (flags ++ held ∷ []) k true) at_end ∙ get_or-append_seam flags held [] true) in (
          λ has. at ∙ ap Some (tells.1 (subst (HasNode met) equal has)),
          λ yes. subst (HasNode met) (sym equal) (tells.0 (same_Some held true (sym at ∙ yes))),
        )
