-- The choice at a site, by its form, with the heads of its ways.
use Rattle.std.proofs.Common.{◌≡◌, ℕ, zero, suc, ◌+◌, ◌<◌, ◌⊎◌, inl, inr, ◌↔◌, List, [], ◌∷◌, Option, Some, None, All, length, map, slice_get, option_map, refl, sym, ap, ◌∙◌, subst, arith}
use Rattle.std.proofs.lemmas.List.Elements.{All-get_or}
use Rattle.std.proofs.lemmas.Option.{none-some, same_Some, get_or_from_slice_get, slice_get-map, slice_get_within}
use Rattle.lw_base.specs.declared.token.Span.{Span}
use Rattle.lw_grammar.specs.declared.grammar.Grammar.{Grammar}
use Rattle.lw_grammar.specs.declared.rule.Element.{Element}
use Rattle.lw_grammar.specs.declared.rule.Element.TheOpen as layer
use Rattle.lw_grammar.specs.declared.rule.Value0.{Value0}
use Rattle.lw_grammar.specs.declared.rule.Value0.TheOpen as value
use Rattle.lw_grammar.specs.Kinds.{Kinds}
use Rattle.lw_first.specs.declared.heads.head.Head.{Head}
use Rattle.lw_first.specs.Sets.{AreDistinctHeads, IsAmongHeads, IsInSet}
use Rattle.lw_first.specs.Before.{CanBefore, ManyCanBefore}
use Rattle.lw_look.specs.Sites.{PartSite, Part, Body, Value, ElementAt, ValueAt, AlternativeAt, OptionalAt, RepeatedAt}
use Rattle.lw_look.specs.Sites as site
use Rattle.lw_look.specs.Heads.{CanLook}
use Rattle.lw_look.specs.Heads as head
use Rattle.lw_lookahead.specs.declared.points.point.Point.{Point}
use Rattle.lw_lookahead.specs.Written.{IsSpanOf, IsWrittenAt}
use Rattle.lw_lookahead.specs.Written as written
use Rattle.lw_lookahead.specs.Points.{IsPointAt}
use Rattle.lw_lookahead.specs.Ways.{HasExactly, AreWaysInto, AreTwoWays}
use Rattle.lw_lookahead.specs.Gathering.{IsFollowedBy, HasRepeated}
use Rattle.lw_lookahead.proofs.SiteForms.{form_of_alternative, form_of_optional, form_of_value, no_optional, no_repeated, choice_is_other, choice_look, optional_look, repeated_look}

-- ---- items at places

item_there : {X : Type 0} (xs : List X) (i : ℕ) → i < length xs → (x : X) × (slice_get xs i ≡ Some x)
item_there [] i inside = absurd (omega arith)
item_there (x ∷ xs) zero inside = (x, refl)
item_there (x ∷ xs) (suc i) inside = item_there xs i (omega arith)

of_map : {X Y : Type 0} (f : X → Y) (o : Option X) (y : Y) → option_map f o ≡ Some y → (x : X) × (o ≡ Some x) × (f x ≡ y)
of_map f None y is = absurd (none-some y is)
of_map f (Some x) y is = (x, refl, same_Some (f x) y is)

-- ---- two ways

first_or_second : (P Q : List ℕ → Type 0) (one two : List Head) → HasExactly P one → HasExactly Q two → (way : ℕ) (h : List ℕ) →
    (((way ≡ 1) × P h) ⊎ ((way ≡ 2) × Q h)) ↔ ((i : ℕ) × (way ≡ i + 1) × IsInSet (one ∷ two ∷ []) i h)
first_or_second P Q one two first second way h = (forth, back)
  where
    forth : ((way ≡ 1) × P h) ⊎ ((way ≡ 2) × Q h) → (i : ℕ) × (way ≡ i + 1) × IsInSet (one ∷ two ∷ []) i h
    forth (inl (is, does)) = (0, is, (one, refl, (first h).1 does))
    forth (inr (is, does)) = (1, is, (two, refl, (second h).1 does))

    of : (i : ℕ) → way ≡ i + 1 → (heads : List Head) → slice_get (one ∷ two ∷ []) i ≡ Some heads → IsAmongHeads heads h → ((way ≡ 1) × P h) ⊎ ((way ≡ 2) × Q h)
    of zero is heads there among = inl (is, (first h).0 (subst (λ heads. IsAmongHeads heads h) (sym (same_Some one heads there)) among))
    of (suc zero) is heads there among = inr (omega arith, (second h).0 (subst (λ heads. IsAmongHeads heads h) (sym (same_Some two heads there)) among))
    of (suc (suc i)) is heads there among = absurd (none-some heads there)

    back : (i : ℕ) × (way ≡ i + 1) × IsInSet (one ∷ two ∷ []) i h → ((way ≡ 1) × P h) ⊎ ((way ≡ 2) × Q h)
    back (i, is, (heads, there, among)) = of i is heads there among

module _ (g : Grammar) (kinds : Kinds) (k : ℕ) (heads followers : List (List Head)) where
  module _ (s : PartSite) (file : ℕ) (after : List Head) (follows : IsFollowedBy g kinds k heads followers s file after) (point : Point)
      (in_file : point.file ≡ file) (ways_distinct : All AreDistinctHeads point.ways.items) where
    way_distinct : (i : ℕ) (set : List Head) → slice_get point.ways.items i ≡ Some set → AreDistinctHeads set
    way_distinct i set found =
        subst AreDistinctHeads (get_or_from_slice_get point.ways.items i set set found)
        (All-get_or AreDistinctHeads point.ways.items i set (slice_get_within point.ways.items i set found) ways_distinct)

    placed : IsSpanOf g s point.span → IsWrittenAt g s point.file point.span
    placed spans = record { rule = follows.rule; at = follows.at; in_file = follows.in_file ∙ sym in_file; spans = spans }

    -- ---- alternatives

    module _ (parts : List Part) (into : (i : ℕ) (x : Part) → AlternativeAt g s i x → slice_get parts i ≡ Some x)
        (from : (i : ℕ) (x : Part) → slice_get parts i ≡ Some x → AlternativeAt g s i x) (no_option : (e : Element) → OptionalAt g s e → ⊥)
        (no_loop : (e : Element) → RepeatedAt g s e → ⊥) (ways : AreWaysInto g kinds k heads parts after point.ways.items) where
      forth : (way : ℕ) (h : List ℕ) → CanLook g kinds k (IsInSet heads) (IsInSet followers) s way h → (i : ℕ) × (way ≡ i + 1) × IsInSet point.ways.items i h
      forth way h look =
          let (i, x, a, is, at, can, p) = choice_look g kinds k (IsInSet heads) (IsInSet followers) no_option no_loop look in
          let there = into i x at in
          let inside = slice_get_within parts i x there in
          let (set, found) = item_there point.ways.items i (omega (arith, ways.all, inside)) in
          (i, is, (set, found, (ways.each i x set there found h).1 (a, (follows.exact a).1 p, can)))

      back : (way : ℕ) (h : List ℕ) (i : ℕ) → way ≡ i + 1 → (set : List Head) → slice_get point.ways.items i ≡ Some set → IsAmongHeads set h →
          CanLook g kinds k (IsInSet heads) (IsInSet followers) s way h
      back way h i is set found among =
          let inside = slice_get_within point.ways.items i set found in
          let (x, there) = item_there parts i (omega (arith, ways.all, inside)) in
          let (a, behind, can) = (ways.each i x set there found h).0 among in
          subst (λ way. CanLook g kinds k (IsInSet heads) (IsInSet followers) s way h) (sym is) (head.alternative (from i x there) can ((follows.exact a).0 behind))

      alternatives_exact : (way : ℕ) (h : List ℕ) → CanLook g kinds k (IsInSet heads) (IsInSet followers) s way h ↔ ((i : ℕ) × (way ≡ i + 1) × IsInSet point.ways.items i h)
      alternatives_exact way h = (forth way h, λ (i, is, (set, found, among)). back way h i is set found among)

    module _ (es : List Element) (there : ElementAt g s (layer.Choice es point.span)) where
      part_here : (i : ℕ) (x : Part) → AlternativeAt g s i x → slice_get (map Body es) i ≡ Some x
      part_here i x at =
          let (fs, span, e, same, is, body) = form_of_alternative g there at in
          slice_get-map Body es i ∙ ap (option_map Body) (ap (λ xs. slice_get xs i) (parts_of same) ∙ is) ∙ ap Some (sym body)
        where
          parts_of : {xs ys : List Element} {one other : Span} → layer.Choice xs one ≡ layer.Choice ys other → xs ≡ ys
          parts_of same = cc

      way_here : (i : ℕ) (x : Part) → slice_get (map Body es) i ≡ Some x → AlternativeAt g s i x
      way_here i x is =
          let (e, at, body) = of_map Body (slice_get es i) x (sym (slice_get-map Body es i) ∙ is) in
          subst (AlternativeAt g s i) body (site.element there at)

      no_option_here : (e : Element) → OptionalAt g s e → ⊥
      no_option_here e at = not (form_of_optional g there at).1
        where
          not : {xs : List Element} {e : Element} {one other : Span} → layer.Choice xs one ≡ layer.Maybe e other → ⊥
          not same = cc

      pub choice_point : AreWaysInto g kinds k heads (map Body es) after point.ways.items → IsPointAt g kinds k heads followers s point
      choice_point ways = record {
        place = placed (written.alternatives es there);
        exact = alternatives_exact (map Body es) part_here way_here no_option_here (choice_is_other g there).repeated ways;
        distinct = way_distinct;
      }

    module _ (v : Value0) (vs : List Value0) (there : ValueAt g s v (value.Choice vs point.span)) where
      value_here : (i : ℕ) (x : Part) → AlternativeAt g s i x → slice_get (map Value vs) i ≡ Some x
      value_here i x at =
          let (us, span, u, same, is, body) = form_of_value g there at in
          slice_get-map Value vs i ∙ ap (option_map Value) (ap (λ xs. slice_get xs i) (parts_of same) ∙ is) ∙ ap Some (sym body)
        where
          parts_of : {xs ys : List Value0} {one other : Span} → value.Choice xs one ≡ value.Choice ys other → xs ≡ ys
          parts_of same = cc

      value_way_here : (i : ℕ) (x : Part) → slice_get (map Value vs) i ≡ Some x → AlternativeAt g s i x
      value_way_here i x is =
          let (u, at, body) = of_map Value (slice_get vs i) x (sym (slice_get-map Value vs i) ∙ is) in
          subst (AlternativeAt g s i) body (site.assigned there at)

      pub values_point : AreWaysInto g kinds k heads (map Value vs) after point.ways.items → IsPointAt g kinds k heads followers s point
      values_point ways = record {
        place = placed (written.values v vs there);
        exact = alternatives_exact (map Value vs) value_here value_way_here (λ e at. no_optional g there at) (λ e at. no_repeated g there at) ways;
        distinct = way_distinct;
      }

    -- ---- `?`, `*` and `+`

    module _ (e : Element) (P : List ℕ → Type 0) (one two : List Head) (are : point.ways.items ≡ one ∷ two ∷ []) (reads : HasExactly P one)
        (passes : HasExactly (IsAmongHeads after) two) (spans : IsSpanOf g s point.span)
        (into : (way : ℕ) (h : List ℕ) → CanLook g kinds k (IsInSet heads) (IsInSet followers) s way h → ((way ≡ 1) × P h) ⊎ ((way ≡ 2) × IsAmongHeads after h))
        (from : (way : ℕ) (h : List ℕ) → ((way ≡ 1) × P h) ⊎ ((way ≡ 2) × IsAmongHeads after h) → CanLook g kinds k (IsInSet heads) (IsInSet followers) s way h) where
      two_ways_point : IsPointAt g kinds k heads followers s point
      two_ways_point = record { place = placed spans; exact = exact; distinct = way_distinct }
        where
          exact : (way : ℕ) (h : List ℕ) → CanLook g kinds k (IsInSet heads) (IsInSet followers) s way h ↔ ((i : ℕ) × (way ≡ i + 1) × IsInSet point.ways.items i h)
          exact way h =
              let both = first_or_second P (IsAmongHeads after) one two reads passes way h in
              subst (λ ways. CanLook g kinds k (IsInSet heads) (IsInSet followers) s way h ↔ ((i : ℕ) × (way ≡ i + 1) × IsInSet ways i h)) (sym are)
              (λ look. both.0 (into way h look), λ found. from way h (both.1 found))

    module _ (e : Element) (there : ElementAt g s (layer.Maybe e point.span)) (ways : AreTwoWays g kinds k heads e after after point.ways.items) where
      pub optional_point : IsPointAt g kinds k heads followers s point
      optional_point = two_ways_point e (CanBefore g kinds k heads (Body e) after) ways.one ways.two ways.are ways.reads ways.passes (written.optional e there) into from
        where
          into : (way : ℕ) (h : List ℕ) → CanLook g kinds k (IsInSet heads) (IsInSet followers) s way h →
              ((way ≡ 1) × CanBefore g kinds k heads (Body e) after h) ⊎ ((way ≡ 2) × IsAmongHeads after h)
          into way h look = elim (optional_look g kinds k (IsInSet heads) (IsInSet followers) there look) [
            | inl (is, (a, can, p)) ↦ inl (is, (a, (follows.exact a).1 p, can))
            | inr (is, p) ↦ inr (is, (follows.exact h).1 p)
          ]

          from : (way : ℕ) (h : List ℕ) → ((way ≡ 1) × CanBefore g kinds k heads (Body e) after h) ⊎ ((way ≡ 2) × IsAmongHeads after h) →
              CanLook g kinds k (IsInSet heads) (IsInSet followers) s way h
          from way h (inl (is, (a, behind, can))) =
              subst (λ way. CanLook g kinds k (IsInSet heads) (IsInSet followers) s way h) (sym is) (head.enters_ (site.optional there) can ((follows.exact a).0 behind))
          from way h (inr (is, behind)) =
              subst (λ way. CanLook g kinds k (IsInSet heads) (IsInSet followers) s way h) (sym is) (head.passes_ (site.optional there) ((follows.exact h).0 behind))

    loop_of : {e : Element} {span : Span} → HasRepeated e span g s → RepeatedAt g s e
    loop_of (inl at) = site.any at
    loop_of (inr at) = site.some at

    span_of : {e : Element} → HasRepeated e point.span g s → IsSpanOf g s point.span
    span_of {e} (inl at) = written.any e at
    span_of {e} (inr at) = written.some e at

    module _ (e : Element) (there : HasRepeated e point.span g s) (again : List Head) (all : HasExactly (ManyCanBefore g kinds k heads e after) again)
        (ways : AreTwoWays g kinds k heads e again after point.ways.items) where
      pub repeated_point : IsPointAt g kinds k heads followers s point
      repeated_point =
          two_ways_point e (CanBefore g kinds k heads (Body e) again) ways.one ways.two ways.are ways.reads ways.passes (span_of there) into from
        where
          into : (way : ℕ) (h : List ℕ) → CanLook g kinds k (IsInSet heads) (IsInSet followers) s way h →
              ((way ≡ 1) × CanBefore g kinds k heads (Body e) again h) ⊎ ((way ≡ 2) × IsAmongHeads after h)
          into way h look = elim (repeated_look g kinds k (IsInSet heads) (IsInSet followers) (loop_of there) look) [
            | inl (is, (a, b, many, can, p)) ↦ inl (is, (b, (all b).1 (a, (follows.exact a).1 p, many), can))
            | inr (is, p) ↦ inr (is, (follows.exact h).1 p)
          ]

          once : (h b a : List ℕ) → head.Can g kinds k (IsInSet heads) (Body e) b h → IsAmongHeads after a → head.ManyCan g kinds k (IsInSet heads) e a b →
              CanLook g kinds k (IsInSet heads) (IsInSet followers) s 1 h
          once h b a can behind many = head.reads_again (loop_of there) many can ((follows.exact a).0 behind)

          from : (way : ℕ) (h : List ℕ) → ((way ≡ 1) × CanBefore g kinds k heads (Body e) again h) ⊎ ((way ≡ 2) × IsAmongHeads after h) →
              CanLook g kinds k (IsInSet heads) (IsInSet followers) s way h
          from way h (inl (is, (b, more, can))) =
              let (a, behind, many) = (all b).0 more in
              subst (λ way. CanLook g kinds k (IsInSet heads) (IsInSet followers) s way h) (sym is) (once h b a can behind many)
          from way h (inr (is, behind)) =
              subst (λ way. CanLook g kinds k (IsInSet heads) (IsInSet followers) s way h) (sym is) (head.leaves (loop_of there) ((follows.exact h).0 behind))
