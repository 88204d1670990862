-- The strings of a grammar are the heads of its choices, counted.
use Rattle.std.proofs.Common.{◌≡◌, ℕ, zero, suc, ◌+◌, ◌<◌, ◌≤◌, List, [], ◌∷◌, ◌++◌, Option, Some, Contains, ◌⊎◌, inl, inr, length, map, slice_get, refl, sym, ap, ap₂, ◌∙◌, subst, length-append, arith}
use Rattle.std.specs.List.{sum_by}
use Rattle.std.proofs.lemmas.List.{length-map, map-append}
use Rattle.std.proofs.lemmas.Option.{slice_get_within}
use Rattle.std.proofs.lemmas.List.Elements.{Contains-append_cases, Contains-append_left, Contains-append_right}
use Rattle.std.proofs.lemmas.List.Sums.{sum_by-cons}
use Rattle.lw_grammar.specs.declared.grammar.Grammar.{Grammar}
use Rattle.lw_grammar.specs.Kinds.{Kinds}
use Rattle.lw_look.specs.Choices.{IsChoice, choice_sites}
use Rattle.lw_look.specs.Looks.{Look, window}
use Rattle.lw_look.specs.Looks as look
use Rattle.lw_look.specs.Sites.{PartSite}
use Rattle.lw_look.specs.Choices as choice
use Rattle.lw_look.specs.Strings.{AreDifferent, AreStrings, HasMoreStrings, LookString}
use Rattle.lw_look.specs.Strings as different
use Rattle.lw_first.specs.declared.heads.head.Head.{Head}
use Rattle.lw_first.specs.Heads.{kinds_in}
use Rattle.lw_first.specs.Sets.{AreDistinctHeads}
use Rattle.lw_lookahead.specs.declared.points.point.Point.{Point}
use Rattle.lw_lookahead.specs.Points.{strings_in}
use Rattle.lw_kinds.proofs.PassingReads.{further}
use Rattle.lw_base.proofs.Lists.{at_map, at_of, has_at, map_has, the_first}
use Rattle.lw_lookahead.specs.Entries.{of_way, of_ways}
use Rattle.lw_lookahead.specs.Seen.{IsSeenAt}
use Rattle.lw_lookahead.specs.Shared.{heads_at}
use Rattle.lw_lookahead.proofs.Different.{few_different, joined_different}
use Rattle.lw_lookahead.proofs.FoundHeads.{one_seen}
use Rattle.lw_lookahead.proofs.WayHeads.{length-of_ways, of_way_has, of_ways_has}

pub item_of : {A : Type 0} (xs : List A) (n : ℕ) → n < length xs → (x : A) × (slice_get xs n ≡ Some x)
item_of [] n inside = absurd (omega arith)
item_of (x ∷ xs) zero inside = (x, refl)
item_of (x ∷ xs) (suc n) inside = item_of xs n (omega arith)

module _ (g : Grammar) (kinds : Kinds) (k : ℕ) where
  abbrev string_of : PartSite → Head × ℕ → LookString
  string_of s p = record { site = s; way = p.1; window = window k (kinds_in p.0) }

  -- the strings of choices, by the heads of their ways
  abbrev strings_of : List PartSite → List Point → List LookString
  strings_of [] points = []
  strings_of (s ∷ sites) [] = []
  strings_of (s ∷ sites) (point ∷ points) = map (string_of s) (heads_at point) ++ strings_of sites points

  count : (sites : List PartSite) (points : List Point) → length points ≡ length sites → length (strings_of sites points) ≡ strings_in points
  count [] [] same = refl
  count [] (point ∷ points) same = absurd (omega arith)
  count (s ∷ sites) [] same = absurd (omega arith)
  count (s ∷ sites) (point ∷ points) same =
      length-append (map (string_of s) (heads_at point)) (strings_of sites points)
      ∙ ap₂ (λ a b. a + b) (length-map (heads_at point) (string_of s) ∙ length-of_ways 1 point.ways.items) (count sites points (omega arith))
      ∙ sym (sum_by-cons (λ (point : Point). sum_by length point.ways.items) point points)

  -- a string is one of a choice that stands at the same place
  abbrev IsAt : List PartSite → List Point → LookString → Type 0
  IsAt sites points x =
      (n : ℕ) × (point : Point) × (p : Head × ℕ) × (slice_get sites n ≡ Some x.site) × (slice_get points n ≡ Some point) × Contains (heads_at point) p × (string_of x.site p ≡ x)

  is_at : (sites : List PartSite) (points : List Point) (x : LookString) → Contains (strings_of sites points) x → IsAt sites points x
  is_at [] points x has = absurd (omega (arith, has.1))
  is_at (s ∷ sites) [] x has = absurd (omega (arith, has.1))
  is_at (s ∷ sites) (point ∷ points) x has = by (Contains-append_cases (map (string_of s) (heads_at point)) (strings_of sites points) x has) (is_at sites points x)
    where
      by : Contains (map (string_of s) (heads_at point)) x ⊎ Contains (strings_of sites points) x → (Contains (strings_of sites points) x → IsAt sites points x) →
          IsAt (s ∷ sites) (point ∷ points) x
      by (inl here) rest =
          let (i, p, at, is) = at_map (string_of s) (heads_at point) x here in
          let site : s ≡ x.site = ap (λ (x : LookString). x.site) is in
          (zero, point, p, ap Some site, refl, has_at (heads_at point) i p at, subst (λ t. string_of t p ≡ x) site is)
      by (inr later) rest = let (n, own, p, site, at, has, is) = rest later in (suc n, own, p, site, at, has, is)

  at_has : (sites : List PartSite) (points : List Point) (n : ℕ) (s : PartSite) (point : Point) (p : Head × ℕ) → slice_get sites n ≡ Some s → slice_get points n ≡ Some point →
      Contains (heads_at point) p → Contains (strings_of sites points) (string_of s p)
  at_has [] points n s point p site at has = cc
  at_has (t ∷ sites) [] n s point p site at has = cc
  at_has (t ∷ sites) (own ∷ points) zero s point p site at has =
      let same : t ≡ s = cc in
      let also : own ≡ point = cc in
      let (i, there) = at_of (heads_at own) p (subst (λ x. Contains (heads_at x) p) (sym also) has) in
      Contains-append_left (map (string_of t) (heads_at own)) (strings_of sites points) (string_of s p)
      (subst (λ x. Contains (map (string_of t) (heads_at own)) (string_of x p)) same (map_has (string_of t) (heads_at own) i p there))
  at_has (t ∷ sites) (own ∷ points) (suc n) s point p site at has =
      Contains-append_right (map (string_of t) (heads_at own)) (strings_of sites points) (string_of s p) (at_has sites points n s point p site at has)

  -- where a window comes next stands a choice
  pub looks_at_choice : {s : PartSite} {way : ℕ} {seen : List (Option ℕ)} → Look g kinds k s way seen → IsChoice g s
  looks_at_choice (look.alternative {i} {x} at p after) = choice.alternatives i x at
  looks_at_choice (look.enters {e} at p after) = choice.optional e at
  looks_at_choice (look.passes {e} at after) = choice.optional e at
  looks_at_choice (look.reads_again {e} at p r after) = choice.repeated e at
  looks_at_choice (look.leaves {e} at after) = choice.repeated e at

  abbrev AllSeen : List PartSite → List Point → Type 0
  AllSeen sites points = (n : ℕ) (s : PartSite) (point : Point) → slice_get sites n ≡ Some s → slice_get points n ≡ Some point → IsSeenAt g kinds k s point

  -- ---- no more than the heads

  module _ (all_choices : (s : PartSite) → IsChoice g s → Contains (choice_sites g) s) (points : List Point) (same : length points ≡ length (choice_sites g))
      (seen : AllSeen (choice_sites g) points) where
    is_string : (x : LookString) → Look g kinds k x.site x.way x.window → Contains (strings_of (choice_sites g) points) x
    is_string x looks =
        let (n, at) = at_of (choice_sites g) x.site (all_choices x.site (looks_at_choice looks)) in
        let (point, there) = item_of points n (omega (arith, slice_get_within (choice_sites g) n x.site at)) in
        let (head, has, is) = ((seen n x.site point at there).exact x.way x.window).0 looks in
        subst (λ w. Contains (strings_of (choice_sites g) points) (record { site = x.site; way = x.way; window = w })) (sym is)
        (at_has (choice_sites g) points n x.site point (head, x.way) at there has)

    pub no_more_strings : (most : ℕ) → strings_in points ≤ most → ¬ HasMoreStrings g kinds k most
    no_more_strings most few (strings, are, more) =
        omega (
          arith,
          few_different strings (strings_of (choice_sites g) points) are.different (λ x has. is_string x (are.come x has)),
          count (choice_sites g) points same,
        )

  -- ---- as many as the heads

  module _ (s : PartSite) where
    one_way : (way : ℕ) (heads : List Head) → AreDistinctHeads heads → ((head : Head) → Contains heads head → length (kinds_in head) ≤ k) →
        AreDifferent (map (string_of s) (of_way way heads))
    one_way way [] distinct short = different.none
    one_way way (x ∷ heads) distinct short = different.more absent (one_way way heads later (λ head has. short head (further x heads head has)))
      where
        later : AreDistinctHeads heads
        later i j head at_i at_j = omega (arith, distinct (suc i) (suc j) head at_i at_j)

        absent : ¬ Contains (map (string_of s) (of_way way heads)) (string_of s (x, way))
        absent has =
            let (i, p, at, is) = at_map (string_of s) (of_way way heads) (string_of s (x, way)) has in
            let (own, last) = (of_way_has way heads p.0 p.1).0 (has_at (of_way way heads) i p at) in
            let alike : window k (kinds_in p.0) ≡ window k (kinds_in x) = ap (λ (x : LookString). x.window) is in
            let same : p.0 ≡ x = one_seen k p.0 x (short p.0 (further x heads p.0 own)) (short x (the_first x heads)) alike in
            let (j, there) = at_of heads p.0 own in
            omega (arith, distinct zero (suc j) x refl (there ∙ ap Some same))

    all_ways : (n : ℕ) (ways : List (List Head)) → ((i : ℕ) (heads : List Head) → slice_get ways i ≡ Some heads → AreDistinctHeads heads) →
        ((head : Head) (way : ℕ) → Contains (of_ways n ways) (head, way) → length (kinds_in head) ≤ k) →
        AreDifferent (map (string_of s) (of_ways n ways))
    all_ways n [] distinct short = different.none
    all_ways n (heads ∷ ways) distinct short =
        subst AreDifferent (sym (map-append (string_of s) (of_way n heads) (of_ways (n + 1) ways)))
        (joined_different (map (string_of s) (of_way n heads)) (map (string_of s) (of_ways (n + 1) ways))
        (one_way n heads (distinct zero heads refl)
        (λ head has. short head n (Contains-append_left (of_way n heads) (of_ways (n + 1) ways) (head, n) ((of_way_has n heads head n).1 (has, refl)))))
        (all_ways (n + 1) ways (λ i. distinct (suc i))
        (λ head way has. short head way (Contains-append_right (of_way n heads) (of_ways (n + 1) ways) (head, way) has)))
        apart)
      where
        apart : (x : LookString) → Contains (map (string_of s) (of_way n heads)) x → ¬ Contains (map (string_of s) (of_ways (n + 1) ways)) x
        apart x here there =
            let (i, p, at, is) = at_map (string_of s) (of_way n heads) x here in
            let (j, q, also, was) = at_map (string_of s) (of_ways (n + 1) ways) x there in
            let (own, first) = (of_way_has n heads p.0 p.1).0 (has_at (of_way n heads) i p at) in
            let (place, others, later, where_at, rest) = (of_ways_has (n + 1) ways q.0 q.1).0 (has_at (of_ways (n + 1) ways) j q also) in
            let one : p.1 ≡ x.way = ap (λ (x : LookString). x.way) is in
            let other : q.1 ≡ x.way = ap (λ (x : LookString). x.way) was in
            omega arith

  abbrev AreOnce : List PartSite → Type 0
  AreOnce sites = (i j : ℕ) (s : PartSite) → slice_get sites i ≡ Some s → slice_get sites j ≡ Some s → i ≡ j

  -- each way has each head once
  abbrev pub AreDistinctPoints : List Point → Type 0
  AreDistinctPoints points = (n i : ℕ) (point : Point) (heads : List Head) → slice_get points n ≡ Some point → slice_get point.ways.items i ≡ Some heads → AreDistinctHeads heads

  abbrev pub AreShortPoints : List Point → Type 0
  AreShortPoints points =
      (n : ℕ) (point : Point) → slice_get points n ≡ Some point → (head : Head) (way : ℕ) → Contains (heads_at point) (head, way) → length (kinds_in head) ≤ k

  all_different : (sites : List PartSite) (points : List Point) → AreOnce sites → AreDistinctPoints points → AreShortPoints points → AreDifferent (strings_of sites points)
  all_different [] points once distinct short = different.none
  all_different (s ∷ sites) [] once distinct short = different.none
  all_different (s ∷ sites) (point ∷ points) once distinct short =
      joined_different (map (string_of s) (heads_at point)) (strings_of sites points)
      (all_ways s 1 point.ways.items (λ i heads. distinct zero i point heads refl) (short zero point refl))
      (all_different sites points (λ i j t at also. omega (arith, once (suc i) (suc j) t at also)) (λ n. distinct (suc n)) (λ n. short (suc n)))
      apart
    where
      apart : (x : LookString) → Contains (map (string_of s) (heads_at point)) x → ¬ Contains (strings_of sites points) x
      apart x here there =
          let (i, p, at, is) = at_map (string_of s) (heads_at point) x here in
          let (n, own, q, site, at_own, has_own, was) = is_at sites points x there in
          let same : s ≡ x.site = ap (λ (x : LookString). x.site) is in
          omega (arith, once zero (suc n) s refl (site ∙ ap Some (sym same)))

  module _ (sites : List PartSite) (points : List Point) (once : AreOnce sites) (same : length points ≡ length sites) (seen : AllSeen sites points)
      (distinct : AreDistinctPoints points) (short : AreShortPoints points) where
    comes : (x : LookString) → Contains (strings_of sites points) x → Look g kinds k x.site x.way x.window
    comes x has =
        let (n, point, p, site, at, own, is) = is_at sites points x has in
        subst (λ (x : LookString). Look g kinds k x.site x.way x.window) is (((seen n x.site point site at).exact p.1 (window k (kinds_in p.0))).1 (p.0, own, refl))

    pub more_strings : (most : ℕ) → most < strings_in points → HasMoreStrings g kinds k most
    more_strings most many = (
      strings_of sites points,
      record { different = all_different sites points once distinct short; come = comes },
      omega (arith, count sites points same),
    )
