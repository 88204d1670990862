-- The places of a grammar's leaves, rule by rule and leaf by leaf.
use Rattle.std.proofs.Common.{◌≡◌, ◌⊎◌, ℕ, ◌+◌, ◌<◌, ◌≤◌, List, [], ◌∷◌, ◌++◌, Some, length, slice_get, Contains, inl, inr, refl, sym, ap, ◌∙◌, subst, arith}
use Rattle.std.proofs.lemmas.Bool.{cases_lt}
use Rattle.std.proofs.lemmas.Option.{same_Some, slice_get_within}
use Rattle.lw_grammar.specs.declared.grammar.Grammar.{Grammar}
use Rattle.lw_grammar.specs.declared.rule.Rule.{Rule}
use Rattle.lw_grammar.specs.Leaves.{Leaf, leaves}
use Rattle.lw_faults.specs.Finding.{Finds}
use Rattle.lw_faults.proofs.Joining.{Finds-nothing, Finds-one, Finds-then, Finds-iff}
use Rattle.lw_flow.specs.declared.before.Before.{Before}
use Rattle.lw_properties.specs.Places.{Spot, StandsIn, StandsAt}

-- ---- in the row of a rule
module _ (rule : Rule) (ls : List Leaf) (row : List Before) where
  -- before the place i
  pub record StandsBefore (i : ℕ) (spot : Spot) : Type 0 where
    stands : StandsIn rule ls row spot
    below : stands.number < i

  pub none_stands : {a : List Spot} → Finds (StandsBefore 0) a a
  none_stands = Finds-nothing (λ spot is. omega (arith, is.below))

  pub one_stands : {a b : List Spot} (i : ℕ) (leaf : Leaf) (before : Before) → slice_get ls i ≡ Some leaf → slice_get row i ≡ Some before → Finds (StandsBefore i) a b →
      Finds (StandsBefore (i + 1)) a (b ++ record { rule = rule; leaf = leaf; before = before } ∷ [])
  one_stands {a} {b} i leaf before there also finds = Finds-iff (λ spot. (into spot, from spot)) (Finds-then finds (Finds-one b here))
    where
      here : Spot
      here = record { rule = rule; leaf = leaf; before = before }

      into : (spot : Spot) → StandsBefore i spot ⊎ (spot ≡ here) → StandsBefore (i + 1) spot
      into spot (inl is) = record { stands = is.stands; below = omega (arith, is.below) }
      into spot (inr same) =
          subst (StandsBefore (i + 1)) (sym same) (record { stands = record { number = i; by = refl; leaf = there; before = also }; below = omega arith })

      same_spot : (spot : Spot) → spot.rule ≡ rule → spot.leaf ≡ leaf → spot.before ≡ before → spot ≡ here
      same_spot spot r l b =
          let by_rule : Rule → Spot = λ x. record { rule = x; leaf = spot.leaf; before = spot.before } in
          let by_leaf : Leaf → Spot = λ x. record { rule = rule; leaf = x; before = spot.before } in
          let by_before : Before → Spot = λ x. record { rule = rule; leaf = leaf; before = x } in
          ap by_rule r ∙ ap by_leaf l ∙ ap by_before b

      from : (spot : Spot) → StandsBefore (i + 1) spot → StandsBefore i spot ⊎ (spot ≡ here)
      from spot is = elim (cases_lt is.stands.number i) [
        | inl lt ↦ inl (record { stands = is.stands; below = lt })
        | inr ge ↦
            let at : is.stands.number ≡ i = omega (arith, ge, is.below) in
            inr (same_spot spot is.stands.by (same_Some spot.leaf leaf (sym is.stands.leaf ∙ ap (slice_get ls) at ∙ there))
            (same_Some spot.before before (sym is.stands.before ∙ ap (slice_get row) at ∙ also)))
      ]

  pub all_stand : {a b : List Spot} (n : ℕ) → length ls ≤ n → Finds (StandsBefore n) a b → Finds (StandsIn rule ls row) a b
  all_stand n past finds =
      Finds-iff (λ spot. (λ is. is.stands, λ is. record { stands = is; below = omega (arith, past, slice_get_within ls is.number spot.leaf is.leaf) })) finds

-- ---- in the rows of all rules
module _ (g : Grammar) (rows : List (List Before)) where
  pub record ComesBefore (w : ℕ) (spot : Spot) : Type 0 where
    stands : StandsAt g rows spot
    below : stands.number < w

  pub none_comes : {a : List Spot} → Finds (ComesBefore 0) a a
  none_comes = Finds-nothing (λ spot is. omega (arith, is.below))

  pub one_comes : {a b c : List Spot} (w : ℕ) (rule : Rule) (row : List Before) → slice_get g.rules w ≡ Some rule → slice_get rows w ≡ Some row → Finds (ComesBefore w) a b →
      Finds (StandsIn rule (leaves rule.body) row) b c → Finds (ComesBefore (w + 1)) a c
  one_comes w rule row there also finds more = Finds-iff (λ spot. (into spot, from spot)) (Finds-then finds more)
    where
      into : (spot : Spot) → ComesBefore w spot ⊎ StandsIn rule (leaves rule.body) row spot → ComesBefore (w + 1) spot
      into spot (inl is) = record { stands = is.stands; below = omega (arith, is.below) }
      into spot (inr is) = record { stands = record { number = w; rule = rule; row = row; written = there; in_rows = also; stands = is }; below = omega arith }

      from : (spot : Spot) → ComesBefore (w + 1) spot → ComesBefore w spot ⊎ StandsIn rule (leaves rule.body) row spot
      from spot is = elim (cases_lt is.stands.number w) [
        | inl lt ↦ inl (record { stands = is.stands; below = lt })
        | inr ge ↦
            let at : is.stands.number ≡ w = omega (arith, ge, is.below) in
            let of_rule : is.stands.rule ≡ rule = same_Some is.stands.rule rule (sym is.stands.written ∙ ap (slice_get g.rules) at ∙ there) in
            let in_row : is.stands.row ≡ row = same_Some is.stands.row row (sym is.stands.in_rows ∙ ap (slice_get rows) at ∙ also) in
            inr (subst (λ (x : Rule). StandsIn x (leaves x.body) row spot) of_rule (subst (λ r. StandsIn is.stands.rule (leaves is.stands.rule.body) r spot) in_row is.stands.stands))
      ]

  pub all_come : {b : List Spot} (n : ℕ) → length g.rules ≤ n → Finds (ComesBefore n) [] b → (spot : Spot) → (Contains b spot → StandsAt g rows spot) × (StandsAt g rows spot → Contains b spot)
  all_come {b} n past finds spot = (λ has. of ((finds.exact spot).0 has), λ is. (finds.exact spot).1 (inr (record { stands = is; below = omega (arith, past, slice_get_within g.rules is.number is.rule is.written) })))
    where
      of : Contains [] spot ⊎ ComesBefore n spot → StandsAt g rows spot
      of (inl none) = absurd (omega (arith, none.1))
      of (inr is) = is.stands
