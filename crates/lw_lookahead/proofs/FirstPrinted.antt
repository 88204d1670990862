-- Of heads that are gone through one by one, the one whose window is printed first.
use Rattle.std.proofs.Common.{◌≡◌, ◌≢◌, ℕ, ◌+◌, ◌<◌, List, [], ◌∷◌, ◌++◌, Option, Some, None, Contains, ◌⊎◌, inl, inr, Ordering, Less, Greater, length, take, get_or, sym, ap, ◌∙◌, subst}
use Rattle.std.specs.Cmp.Lexicographic.{slice_cmp}
use Rattle.std.specs.Ordering.{nat_cmp, ordering_reverse}
use Rattle.std.proofs.lemmas.Cmp.{nat_list_cmp_total}
use Rattle.std.proofs.lemmas.List.{take_more}
use Rattle.std.proofs.lemmas.List.Elements.{Contains-append_left, Contains-push, Contains-push_cases}
use Rattle.lw_first.specs.declared.heads.head.Head.{Head}
use Rattle.lw_lookahead.specs.Shared.{StandsInFront, IsFirstPrintedOf, KeepsFirst, head_text}

-- ---- texts by their order

abbrev order : List ℕ → List ℕ → Ordering
order = slice_cmp nat_cmp

-- the text that is in front stands before what the other stands before or beside
in_front : (text least other : List ℕ) → order text least ≡ Less → order least other ≢ Greater → order text other ≢ Greater
in_front text least other front no_later later =
    let back : order other text ≡ Less = nat_list_cmp_total.antisymm other text ∙ ap ordering_reverse later in
    no_later (nat_list_cmp_total.antisymm least other ∙ ap ordering_reverse (nat_list_cmp_total.trans other text least back front))

itself : (text : List ℕ) → order text text ≢ Greater
itself text later = let reversed = nat_list_cmp_total.antisymm text text in let less : Greater ≡ Less = sym later ∙ reversed ∙ ap ordering_reverse later in cc

not_in_front : (text least : List ℕ) → ¬ (order text least ≡ Less) → order least text ≢ Greater
not_in_front text least none later = none (nat_list_cmp_total.antisymm text least ∙ ap ordering_reverse later)

-- ---- one head more

module _ (texts : List (List ℕ)) (k : ℕ) (entries : List (Head × ℕ)) (way : ℕ) where
  -- one of the heads, whose way this is
  abbrev pub IsOne : List Head → Head → Type 0
  IsOne heads head = Contains heads head × Contains entries (head, way)

  abbrev First : List Head → Option (Head × List ℕ) → Type 0
  First heads least = IsFirstPrintedOf texts k (IsOne heads) least

  module _ (heads : List Head) (x : Head) where
    abbrev more : List Head
    more = heads ++ x ∷ []

    was_or_new : (head : Head) → IsOne more head → IsOne heads head ⊎ (x ≡ head)
    was_or_new head (has, own) = by (Contains-push_cases heads x head has)
      where
        by : Contains heads head ⊎ (x ≡ head) → IsOne heads head ⊎ (x ≡ head)
        by (inl was) = inl (was, own)
        by (inr is) = inr is

    still : (head : Head) → IsOne heads head → IsOne more head
    still head (has, own) = (Contains-append_left heads (x ∷ []) head has, own)

    passed : ¬ Contains entries (x, way) → (least : Option (Head × List ℕ)) → First heads least → First more least
    passed other None none = λ head one. by head one (was_or_new head one)
      where
        by : (head : Head) → IsOne more head → IsOne heads head ⊎ (x ≡ head) → ⊥
        by head one (inl was) = none head was
        by head one (inr is) = other (subst (λ h. Contains entries (h, way)) (sym is) one.1)
    passed other (Some least) first = record {
      is = still least.0 first.is;
      printed_so = first.printed_so;
      first = λ head one. by head one (was_or_new head one);
    }
      where
        by : (head : Head) → IsOne more head → IsOne heads head ⊎ (x ≡ head) → order least.1 (head_text texts k head) ≢ Greater
        by head one (inl was) = first.first head was
        by head one (inr is) = absurd (other (subst (λ h. Contains entries (h, way)) (sym is) one.1))

    module _ (own : Contains entries (x, way)) (text : List ℕ) (is_text : text ≡ head_text texts k x) where
      taken : (least : Option (Head × List ℕ)) → StandsInFront text least → First heads least → First more (Some (x, text))
      taken least front first = record {
        is = (Contains-push heads x, own);
        printed_so = is_text;
        first = λ head one. by least front first head (was_or_new head one);
      }
        where
          by : (least : Option (Head × List ℕ)) → StandsInFront text least → First heads least → (head : Head) →
              IsOne heads head ⊎ (x ≡ head) → order text (head_text texts k head) ≢ Greater
          by None front none head (inl was) = absurd (none head was)
          by (Some least) front first head (inl was) = in_front text least.1 (head_text texts k head) front (first.first head was)
          by least front first head (inr is) = subst (λ t. order text t ≢ Greater) (is_text ∙ ap (head_text texts k) is) (itself text)

      left : (least : Option (Head × List ℕ)) → ¬ StandsInFront text least → First heads least → First more least
      left None none first = absurd (none tt)
      left (Some least) none first = record {
        is = still least.0 first.is;
        printed_so = first.printed_so;
        first = λ head one. by head (was_or_new head one);
      }
        where
          by : (head : Head) → IsOne heads head ⊎ (x ≡ head) → order least.1 (head_text texts k head) ≢ Greater
          by head (inl was) = first.first head was
          by head (inr is) = subst (λ t. order least.1 t ≢ Greater) (is_text ∙ ap (head_text texts k) is) (not_in_front text least.1 none)

  -- ---- the same of the first heads of a list

  module _ (heads : List Head) (i : ℕ) (d : Head) (inside : i < length heads) where
    next : (P : List Head → Type 0) → P (take i heads ++ get_or heads i d ∷ []) → P (take (i + 1) heads)
    next P p = subst P (sym (take_more heads i d inside)) p

    pub passed_next : ¬ Contains entries (get_or heads i d, way) → (least : Option (Head × List ℕ)) → First (take i heads) least → First (take (i + 1) heads) least
    passed_next other least first = next (λ hs. First hs least) (passed (take i heads) (get_or heads i d) other least first)

    module _ (own : Contains entries (get_or heads i d, way)) (text : List ℕ) (is_text : text ≡ head_text texts k (get_or heads i d)) (least : Option (Head × List ℕ))
        (first : First (take i heads) least) where
      pub kept_next : (new : Option (Head × List ℕ)) → KeepsFirst (get_or heads i d) text least new → First (take (i + 1) heads) new
      kept_next new (inl (front, is)) =
          next (λ hs. First hs new)
          (subst (First (take i heads ++ get_or heads i d ∷ [])) (sym is) (taken (take i heads) (get_or heads i d) own text is_text least front first))
      kept_next new (inr (none, is)) =
          next (λ hs. First hs new)
          (subst (First (take i heads ++ get_or heads i d ∷ [])) (sym is) (left (take i heads) (get_or heads i d) own text is_text least none first))
