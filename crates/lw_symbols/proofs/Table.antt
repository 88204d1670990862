-- The named nodes in nodes, one list cut into stretches.
use Rattle.std.proofs.Common.{ℕ, zero, suc, ◌≡◌, ◌==◌, ◌+◌, ◌-◌, ◌≤◌, ◌<◌, nat_lt, Bool, true, false, List, [], ◌∷◌, ◌++◌, Option, Some, None, filter, length, take, drop, get_or, slice_get, refl, sym, ap, subst, ◌∙◌, inl, inr, arith}
use Rattle.std.specs.Prelude.{if◌then◌else◌}
use Rattle.std.specs.List.{flat_map, range_with_len}
use Rattle.std.proofs.lemmas.Bool.{cases_lt}
use Rattle.std.proofs.lemmas.Bool.Decides.{nat_tests}
use Rattle.std.proofs.lemmas.List.{append_assoc, append-nil, get_or_append_left, get_or_push, length-append, map-append}
use Rattle.std.proofs.lemmas.List.Concat.{flat_map-append}
use Rattle.std.proofs.lemmas.List.Elements.{filter-append}
use Rattle.std.proofs.lemmas.List.FromFn.{fill_by_all, get_or-map-range_with_len, length-map-range_with_len}
use Rattle.std.proofs.lemmas.Option.{slice_get_within, get_or_from_slice_get}
use Rattle.lw_base.specs.declared.numbers.NodeId.{NodeId}
use Rattle.lw_tree.specs.declared.node.Node.{Node}
use Rattle.lw_tree.specs.Children.{AreStretches, Families, stretch, stretches}
use Rattle.lw_tree.specs.Parts.{Parts, children_from, children_of, is_inside}
use Rattle.lw_scoping.specs.Symbols.{is_named_node, child_numbers, exports, locals}
use Rattle.lw_symbols.specs.Families.{named_before, named_children, named_families}
use Rattle.lw_symbols.proofs.Children.{equal_numbers}
use Rattle.lw_symbols.proofs.Filtered.{no_longer, numbers, numbers_filter}

-- ---- not more than nodes

abbrev one_if : Bool → ℕ
one_if b = if b then 1 else 0

abbrev is_below : ℕ → Option NodeId → Bool
is_below n None = false
is_below n (Some c) = nat_lt c.0 n

abbrev inside_of : ℕ → List Node → ℕ
inside_of n [] = 0
inside_of n (x ∷ xs) = one_if (is_inside n x.container) + inside_of n xs

abbrev below_of : ℕ → List Node → ℕ
below_of n [] = 0
below_of n (x ∷ xs) = one_if (is_below n x.container) + below_of n xs

children_counted : (n i : ℕ) (xs : List Node) → length (children_from n i xs) ≡ inside_of n xs
children_counted n i [] = refl
children_counted n i (x ∷ xs) = by (is_inside n x.container) (children_counted n (i + 1) xs)
  where
    by : (b : Bool) → length (children_from n (i + 1) xs) ≡ inside_of n xs →
        length (if b then record { 0 = i } ∷ children_from n (i + 1) xs else children_from n (i + 1) xs) ≡ one_if b + inside_of n xs
    by true e = omega (arith, e)
    by false e = omega (arith, e)

one_below : (n a : ℕ) → one_if (nat_lt a (n + 1)) ≡ one_if (nat_lt a n) + one_if (a == n)
one_below n a = grind (arith, nat_tests)

one_more : (n : ℕ) (c : Option NodeId) → one_if (is_below (n + 1) c) ≡ one_if (is_below n c) + one_if (is_inside n c)
one_more n None = refl
one_more n (Some c) = one_below n c.0

below_more : (n : ℕ) (xs : List Node) → below_of (n + 1) xs ≡ below_of n xs + inside_of n xs
below_more n [] = refl
below_more n (x ∷ xs) = omega (arith, one_more n x.container, below_more n xs)

one_at_most : (b : Bool) → one_if b ≤ 1
one_at_most true = omega arith
one_at_most false = omega arith

below_at_most : (n : ℕ) (xs : List Node) → below_of n xs ≤ length xs
below_at_most n [] = omega arith
below_at_most n (x ∷ xs) = omega (arith, one_at_most (is_below n x.container), below_at_most n xs)

-- ---- one stretch behind the other

range_push : (a n : ℕ) → range_with_len a (suc n) ≡ range_with_len a n ++ (a + n) ∷ []
range_push a zero = let same : a ≡ a + 0 = omega arith in λ i. same i ∷ []
range_push a (suc n) =
    let same : (a + 1) + n ≡ a + suc n = omega arith in
    ap (λ (ks : List ℕ). a ∷ ks) (range_push (a + 1) n ∙ (λ i. range_with_len (a + 1) n ++ same i ∷ []))

range_more : (n : ℕ) → range_with_len 0 (n + 1) ≡ range_with_len 0 n ++ n ∷ []
range_more n =
    let next : n + 1 ≡ suc n = omega arith in
    let same : 0 + n ≡ n = omega arith in
    ap (range_with_len 0) next ∙ range_push 0 n ∙ (λ i. range_with_len 0 n ++ same i ∷ [])

module _ (tree : Parts) where
  pub before_more : (n : ℕ) → named_before tree (n + 1) ≡ named_before tree n ++ named_children tree n
  before_more n =
      ap (flat_map (named_children tree)) (range_more n)
      ∙ flat_map-append (named_children tree) (range_with_len 0 n) (n ∷ [])
      ∙ ap (λ (cs : List NodeId). named_before tree n ++ cs) (append-nil (named_children tree n))

  few_below : (n : ℕ) → length (named_before tree n) ≤ below_of n tree.nodes
  few_below zero = omega arith
  few_below (suc n) =
      let next : suc n ≡ n + 1 = omega arith in
      let more : length (named_before tree (n + 1)) ≤ below_of (n + 1) tree.nodes =
      omega (
        arith,
        ap length (before_more n),
        length-append (named_before tree n) (named_children tree n),
        few_below n,
        below_more n tree.nodes,
        no_longer (λ (c : NodeId). is_named_node tree c.0) (children_of n tree.nodes),
        children_counted n 0 tree.nodes,
      ) in
      subst (λ (k : ℕ). length (named_before tree k) ≤ below_of k tree.nodes) (sym next) more

  pub few : (n : ℕ) → length (named_before tree n) ≤ length tree.nodes
  few n = omega (arith, few_below n, below_at_most n tree.nodes)

  -- those of the first nodes, and what follows
  record Continues (n m : ℕ) : Type 0 where
    rest : List NodeId
    is : named_before tree m ≡ named_before tree n ++ rest

  continues : (n k : ℕ) → Continues n (n + k)
  continues n zero =
      let same : n + 0 ≡ n = omega arith in
      record { rest = []; is = ap (named_before tree) same ∙ sym (append-nil (named_before tree n)) }
  continues n (suc k) =
      let before = continues n k in
      let next : n + suc k ≡ (n + k) + 1 = omega arith in
      record {
        rest = before.rest ++ named_children tree (n + k);
        is = ap (named_before tree) next
            ∙ before_more (n + k)
            ∙ ap (λ (cs : List NodeId). cs ++ named_children tree (n + k)) before.is
            ∙ append_assoc (named_before tree n) before.rest (named_children tree (n + k));
      }

  continues_to : (n m : ℕ) → n ≤ m → Continues n m
  continues_to n m le = let same : n + (m - n) ≡ m = omega (arith, le) in subst (Continues n) same (continues n (m - n))

  pub rises : (n m : ℕ) → n ≤ m → length (named_before tree n) ≤ length (named_before tree m)
  rises n m le = let on = continues_to n m le in omega (arith, ap length on.is, length-append (named_before tree n) on.rest)

  drop_front : (xs ys : List NodeId) → drop (length xs) (xs ++ ys) ≡ ys
  drop_front [] ys = refl
  drop_front (x ∷ xs) ys = drop_front xs ys

  take_front : (xs ys : List NodeId) → take (length xs) (xs ++ ys) ≡ xs
  take_front [] ys = refl
  take_front (x ∷ xs) ys = ap (λ (zs : List NodeId). x ∷ zs) (take_front xs ys)

  cut_out : (n m : ℕ) → n + 1 ≤ m → take (length (named_children tree n)) (drop (length (named_before tree n)) (named_before tree m)) ≡ named_children tree n
  cut_out n m le =
      let on = continues_to (n + 1) m le in
      let all : named_before tree m ≡ named_before tree n ++ (named_children tree n ++ on.rest) =
      on.is ∙ ap (λ (cs : List NodeId). cs ++ on.rest) (before_more n) ∙ append_assoc (named_before tree n) (named_children tree n) on.rest in
      ap (λ (cs : List NodeId). take (length (named_children tree n)) (drop (length (named_before tree n)) cs)) all
      ∙ ap (take (length (named_children tree n))) (drop_front (named_before tree n) (named_children tree n ++ on.rest))
      ∙ take_front (named_children tree n) on.rest

  pub record IsTable (starts : List ℕ) (ids : List NodeId) : Type 0 where
    pub cut : AreStretches starts ids
    pub same : stretches starts ids ≡ named_families tree

  pub table : (starts : List ℕ) (ids : List NodeId) → length starts ≡ length tree.nodes + 1 →
      ((n : ℕ) → n ≤ length tree.nodes → get_or starts n 0 ≡ length (named_before tree n)) → ids ≡ named_before tree (length tree.nodes) → IsTable starts ids
  table starts ids long start all =
      let count : length starts - 1 ≡ length tree.nodes = omega (arith, long) in
      record {
        cut = λ n lt. (
          omega (arith, start n (omega (arith, lt, long)), start (n + 1) (omega (arith, lt, long)), rises n (n + 1) (omega arith)),
          omega (arith, start (n + 1) (omega (arith, lt, long)), rises (n + 1) (length tree.nodes) (omega (arith, lt, long)), ap length all),
        );
        same = fill_by_all (named_children tree) (stretches starts ids) (length tree.nodes) []
            (length-map-range_with_len (stretch starts ids) 0 (length starts - 1) ∙ count)
            (λ k lt. get_or-map-range_with_len (stretch starts ids) 0 (length starts - 1) k k [] (omega (arith, count, lt)) (omega arith) ∙ own k lt);
      }
    where
      own : (n : ℕ) → n < length tree.nodes → stretch starts ids n ≡ named_children tree n
      own n lt =
          let here = start n (omega (arith, lt)) in
          let size : get_or starts (n + 1) 0 - get_or starts n 0 ≡ length (named_children tree n) =
          omega (
            arith,
            here,
            start (n + 1) (omega (arith, lt)),
            ap length (before_more n),
            length-append (named_before tree n) (named_children tree n),
          ) in
          ap (λ (m : ℕ). take m (drop (get_or starts n 0) ids)) size
          ∙ ap (λ (m : ℕ). take (length (named_children tree n)) (drop m ids)) here
          ∙ ap (λ (cs : List NodeId). take (length (named_children tree n)) (drop (length (named_before tree n)) cs)) all
          ∙ cut_out n (length tree.nodes) (omega (arith, lt))

  -- ---- what is looked up

  pub families_long : length (named_families tree) ≡ length tree.nodes
  families_long = length-map-range_with_len (named_children tree) 0 (length tree.nodes)

  pub own_locals : (view : Families) (n : ℕ) (found : List NodeId) → view ≡ named_families tree → slice_get view n ≡ Some found → numbers found ≡ locals tree n
  own_locals view n found is at =
      let room : n < length tree.nodes = omega (arith, slice_get_within view n found at, ap length is, families_long) in
      let same : found ≡ named_children tree n =
      sym (get_or_from_slice_get view n found [] at) ∙ ap (λ (l : Families). get_or l n []) is
      ∙ get_or-map-range_with_len (named_children tree) 0 (length tree.nodes) n n [] room (omega arith) in
      ap numbers same ∙ numbers_filter (is_named_node tree) (children_of n tree.nodes)

  pub exported : (root : List NodeId) → numbers root ≡ filter (is_named_node tree) (0 ∷ []) → numbers (root ++ named_children tree 0) ≡ exports tree
  exported root is =
      map-append (λ (c : NodeId). c.0) root (named_children tree 0)
      ∙ ap (λ (ks : List ℕ). ks ++ numbers (named_children tree 0)) is
      ∙ ap (λ (ks : List ℕ). filter (is_named_node tree) (0 ∷ []) ++ ks) (numbers_filter (is_named_node tree) (children_of 0 tree.nodes))
      ∙ sym (filter-append (is_named_node tree) (0 ∷ []) (child_numbers tree 0))

  -- the starts of one node more
  pub pushed : (starts : List ℕ) (k start : ℕ) → length starts ≡ k → ((n : ℕ) → n < k → get_or starts n 0 ≡ length (named_before tree n)) →
      start ≡ length (named_before tree k) → (n : ℕ) → n < k + 1 → get_or (starts ++ start ∷ []) n 0 ≡ length (named_before tree n)
  pushed starts k start long all is n lt = elim (cases_lt n k) [
    | inl less ↦ get_or_append_left starts (start ∷ []) 0 n (omega (arith, less, long)) ∙ all n less
    | inr ge ↦
        let here : n ≡ k = omega (arith, lt, ge) in
        ap (λ (j : ℕ). get_or (starts ++ start ∷ []) j 0) here ∙ get_or_push starts start 0 k long ∙ is ∙ ap (λ (j : ℕ). length (named_before tree j)) (sym here)
  ]

pub no_numbers : (cs : List NodeId) → (length cs == 0) ≡ true → numbers cs ≡ []
no_numbers [] is = refl
no_numbers (x ∷ cs) is = absurd (omega (arith, equal_numbers (length (x ∷ cs)) 0 is))
