-- Where the head of a way is put in: the first ways stay those of all heads, and so does the least pair of ways that have one in common.
use Rattle.std.proofs.Common.{◌≡◌, ℕ, ◌<◌, ◌≤◌, List, [], ◌∷◌, ◌++◌, Option, Some, None, Contains, ◌⊎◌, inl, inr, sym, ap, ◌∙◌, subst, arith}
use Rattle.std.specs.Option.{IfSome}
use Rattle.std.proofs.lemmas.Bool.{cases_lt}
use Rattle.std.proofs.lemmas.List.Elements.{Contains-append_left, Contains-push, Contains-push_cases}
use Rattle.lw_first.specs.declared.heads.head.Head.{Head}
use Rattle.lw_lookahead.specs.Entries.{AreFirstWays, AreUpTo, IsLeastPair, IsLeastPairOf, IsNoLaterPair, IsOfBoth}

abbrev Pairs : Type 0
Pairs = List (Head × ℕ)

no_later : (pair mid : ℕ × ℕ) (way other : ℕ) → IsNoLaterPair pair mid.0 mid.1 → IsNoLaterPair mid way other → IsNoLaterPair pair way other
no_later pair mid way other (inl before) (inl then) = inl (omega arith)
no_later pair mid way other (inl before) (inr (same, then)) = inl (omega arith)
no_later pair mid way other (inr (same, before)) (inl then) = inl (omega arith)
no_later pair mid way other (inr (same, before)) (inr (also, then)) = inr (omega arith, omega arith)

-- the head of a way is put behind these, of which none is of a later way
module _ (pairs : Pairs) (head : Head) (way : ℕ) (up_to : AreUpTo way pairs) where
  abbrev more : Pairs
  more = pairs ++ (head, way) ∷ []

  stays : (h : Head) (w : ℕ) → Contains pairs (h, w) → Contains more (h, w)
  stays h w has = Contains-append_left pairs ((head, way) ∷ []) (h, w) has

  new : Contains more (head, way)
  new = Contains-push pairs (head, way)

  -- one of those that were there, or the new one
  cases : (h : Head) (w : ℕ) → Contains more (h, w) → Contains pairs (h, w) ⊎ ((head ≡ h) × (way ≡ w))
  cases h w has = by (Contains-push_cases pairs (head, way) (h, w) has)
    where
      by : Contains pairs (h, w) ⊎ (◌≡◌ {A = Head × ℕ} (head, way) (h, w)) → Contains pairs (h, w) ⊎ ((head ≡ h) × (way ≡ w))
      by (inl was) = inl was
      by (inr is) = inr (ap (λ (p : Head × ℕ). p.0) is, ap (λ (p : Head × ℕ). p.1) is)

  both_stay : (w o : ℕ) (h : Head) → IsOfBoth pairs w o h → IsOfBoth more w o h
  both_stay w o h both = (stays h w both.0, stays h o both.1)

  -- a later way has the head as well as an earlier one, if it is the new one
  later_of_both : (w o : ℕ) (h : Head) → w < o → IsOfBoth more w o h → IsOfBoth pairs w o h ⊎ (Contains pairs (head, w) × (way ≡ o))
  later_of_both w o h before both = by (cases h w both.0) (cases h o both.1)
    where
      by : Contains pairs (h, w) ⊎ ((head ≡ h) × (way ≡ w)) → Contains pairs (h, o) ⊎ ((head ≡ h) × (way ≡ o)) →
          IsOfBoth pairs w o h ⊎ (Contains pairs (head, w) × (way ≡ o))
      by (inl one) (inl other) = inl (one, other)
      by (inl one) (inr (same, is)) = inr (subst (λ x. Contains pairs (x, w)) (sym same) one, is)
      by (inr (same, is)) (inl other) = absurd (omega (arith, up_to h o other))
      by (inr (same, is)) (inr (also, was)) = absurd (omega arith)

  pub up_to_more : AreUpTo way more
  up_to_more h o has = by (cases h o has)
    where
      by : Contains pairs (h, o) ⊎ ((head ≡ h) × (way ≡ o)) → o ≤ way
      by (inl was) = up_to h o was
      by (inr (same, is)) = omega arith

  -- ---- no way had the head

  module _ (absent : (w : ℕ) → ¬ Contains pairs (head, w)) where
    pub pair_of_new : (pair : Option (ℕ × ℕ)) → IsLeastPairOf pairs pair → IsLeastPairOf more pair
    pair_of_new None none = λ w o h both. by w o h (cases h w both.0) (cases h o both.1)
      where
        by : (w o : ℕ) (h : Head) → Contains pairs (h, w) ⊎ ((head ≡ h) × (way ≡ w)) → Contains pairs (h, o) ⊎ ((head ≡ h) × (way ≡ o)) → w ≡ o
        by w o h (inl one) (inl other) = none w o h (one, other)
        by w o h (inl one) (inr (same, is)) = absurd (absent w (subst (λ x. Contains pairs (x, w)) (sym same) one))
        by w o h (inr (same, is)) (inl other) = absurd (absent o (subst (λ x. Contains pairs (x, o)) (sym same) other))
        by w o h (inr (same, is)) (inr (also, was)) = omega arith
    pair_of_new (Some pair) least = record {
      ascending = least.ascending;
      head = least.head;
      of_both = both_stay pair.0 pair.1 least.head least.of_both;
      least = no_earlier;
    }
      where
        no_earlier : (w o : ℕ) (h : Head) → w < o → IsOfBoth more w o h → IsNoLaterPair pair w o
        no_earlier w o h before both = by (later_of_both w o h before both)
          where
            by : IsOfBoth pairs w o h ⊎ (Contains pairs (head, w) × (way ≡ o)) → IsNoLaterPair pair w o
            by (inl were) = least.least w o h before were
            by (inr (has, is)) = absurd (absent w has)

    module _ (entries : Pairs) (firsts : AreFirstWays pairs entries) where
      abbrev more_entries : Pairs
      more_entries = entries ++ (head, way) ∷ []

      pub ways_of_new : AreFirstWays more more_entries
      ways_of_new = record { no_others = no_others; first = first; all = all }
        where
          entry_cases : (h : Head) (w : ℕ) → Contains more_entries (h, w) → Contains entries (h, w) ⊎ ((head ≡ h) × (way ≡ w))
          entry_cases h w has = by (Contains-push_cases entries (head, way) (h, w) has)
            where
              by : Contains entries (h, w) ⊎ (◌≡◌ {A = Head × ℕ} (head, way) (h, w)) → Contains entries (h, w) ⊎ ((head ≡ h) × (way ≡ w))
              by (inl was) = inl was
              by (inr is) = inr (ap (λ (p : Head × ℕ). p.0) is, ap (λ (p : Head × ℕ). p.1) is)

          no_others : (h : Head) (w : ℕ) → Contains more_entries (h, w) → Contains more (h, w)
          no_others h w has = by (entry_cases h w has)
            where
              by : Contains entries (h, w) ⊎ ((head ≡ h) × (way ≡ w)) → Contains more (h, w)
              by (inl was) = stays h w (firsts.no_others h w was)
              by (inr (same, is)) = subst (λ x. Contains more (x, w)) same (subst (λ n. Contains more (head, n)) is new)

          first : (h : Head) (w o : ℕ) → Contains more_entries (h, w) → Contains more (h, o) → w ≤ o
          first h w o has also = by (entry_cases h w has) (cases h o also)
            where
              by : Contains entries (h, w) ⊎ ((head ≡ h) × (way ≡ w)) → Contains pairs (h, o) ⊎ ((head ≡ h) × (way ≡ o)) → w ≤ o
              by (inl was) (inl other) = firsts.first h w o was other
              by (inl was) (inr (same, is)) = absurd (absent w (subst (λ x. Contains pairs (x, w)) (sym same) (firsts.no_others h w was)))
              by (inr (same, is)) (inl other) = absurd (absent o (subst (λ x. Contains pairs (x, o)) (sym same) other))
              by (inr (same, is)) (inr (too, was)) = omega arith

          all : (h : Head) (w : ℕ) → Contains more (h, w) → (f : ℕ) × Contains more_entries (h, f)
          all h w has = by (cases h w has)
            where
              by : Contains pairs (h, w) ⊎ ((head ≡ h) × (way ≡ w)) → (f : ℕ) × Contains more_entries (h, f)
              by (inl was) = let (f, entry) = firsts.all h w was in (f, Contains-append_left entries ((head, way) ∷ []) (h, f) entry)
              by (inr (same, is)) = (way, subst (λ x. Contains more_entries (x, way)) same (Contains-push entries (head, way)))

  -- ---- a way had it

  module _ (entries : Pairs) (firsts : AreFirstWays pairs entries) (own : ℕ) (entry : Contains entries (head, own)) where
    pub ways_of_known : AreFirstWays more entries
    ways_of_known = record { no_others = λ h w has. stays h w (firsts.no_others h w has); first = first; all = all }
      where
        first : (h : Head) (w o : ℕ) → Contains entries (h, w) → Contains more (h, o) → w ≤ o
        first h w o has also = by (cases h o also)
          where
            by : Contains pairs (h, o) ⊎ ((head ≡ h) × (way ≡ o)) → w ≤ o
            by (inl other) = firsts.first h w o has other
            by (inr (same, is)) = omega (arith, up_to h w (firsts.no_others h w has))

        all : (h : Head) (w : ℕ) → Contains more (h, w) → (f : ℕ) × Contains entries (h, f)
        all h w has = by (cases h w has)
          where
            by : Contains pairs (h, w) ⊎ ((head ≡ h) × (way ≡ w)) → (f : ℕ) × Contains entries (h, f)
            by (inl was) = firsts.all h w was
            by (inr (same, is)) = (own, subst (λ x. Contains entries (x, own)) same entry)

    -- it is this very way
    module _ (late : way ≤ own) where
      back : (h : Head) (w : ℕ) → Contains more (h, w) → Contains pairs (h, w)
      back h w has = by (cases h w has)
        where
          here : Contains pairs (head, own)
          here = firsts.no_others head own entry

          is_way : own ≡ way
          is_way = omega (arith, up_to head own here)

          by : Contains pairs (h, w) ⊎ ((head ≡ h) × (way ≡ w)) → Contains pairs (h, w)
          by (inl was) = was
          by (inr (same, is)) = subst (λ x. Contains pairs (x, w)) same (subst (λ n. Contains pairs (head, n)) (is_way ∙ is) here)

      pub pair_of_same : (pair : Option (ℕ × ℕ)) → IsLeastPairOf pairs pair → IsLeastPairOf more pair
      pair_of_same None none = λ w o h both. none w o h (back h w both.0, back h o both.1)
      pair_of_same (Some pair) least = record {
        ascending = least.ascending;
        head = least.head;
        of_both = both_stay pair.0 pair.1 least.head least.of_both;
        least = λ w o h before both. least.least w o h before (back h w both.0, back h o both.1);
      }

    -- it is an earlier one
    module _ (early : own < way) (next : ℕ × ℕ) where
      pub pair_of_known : (pair : Option (ℕ × ℕ)) → IsLeastPairOf pairs pair → (next ≡ (own, way)) ⊎ (pair ≡ Some next) → IsNoLaterPair next own way →
          IfSome pair (λ was. IsNoLaterPair next was.0 was.1) → IsLeastPair more next
      pair_of_known pair least one here there = by one
        where
          earlier : (pair : Option (ℕ × ℕ)) → IsLeastPairOf pairs pair → IfSome pair (λ was. IsNoLaterPair next was.0 was.1) → (w o : ℕ) (h : Head) → w < o →
              IsOfBoth pairs w o h → IsNoLaterPair next w o
          earlier None none there w o h before both = absurd (omega (arith, none w o h both))
          earlier (Some was) least there w o h before both = no_later next was w o there (least.least w o h before both)

          no_earlier : (w o : ℕ) (h : Head) → w < o → IsOfBoth more w o h → IsNoLaterPair next w o
          no_earlier w o h before both = by (later_of_both w o h before both)
            where
              behind : own ≤ w → way ≡ o → IsNoLaterPair (own, way) w o
              behind first is = by (cases_lt own w)
                where
                  by : (own < w) ⊎ (w ≤ own) → IsNoLaterPair (own, way) w o
                  by (inl less) = inl less
                  by (inr other) = inr (omega arith, omega arith)

              by : IsOfBoth pairs w o h ⊎ (Contains pairs (head, w) × (way ≡ o)) → IsNoLaterPair next w o
              by (inl were) = earlier pair least there w o h before were
              by (inr (has, is)) = no_later next (own, way) w o here (behind (firsts.first head own w entry has) is)

          by : (next ≡ (own, way)) ⊎ (pair ≡ Some next) → IsLeastPair more next
          by (inl is) = record {
            ascending = subst (λ (p : ℕ × ℕ). p.0 < p.1) (sym is) early;
            head = head;
            of_both = subst (λ (p : ℕ × ℕ). IsOfBoth more p.0 p.1 head) (sym is) (stays head own (firsts.no_others head own entry), new);
            least = no_earlier;
          }
          by (inr was) =
              let old : IsLeastPair pairs next = subst (IsLeastPairOf pairs) was least in
              record { ascending = old.ascending; head = old.head; of_both = both_stay next.0 next.1 old.head old.of_both; least = no_earlier }
