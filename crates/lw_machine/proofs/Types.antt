-- By a table of subtypes it is told of two numbers whether the type of the one is that of the other or below it.
use Rattle.std.proofs.Common.{◌≡◌, ℕ, List, Option, Some, None, Contains, length, slice_get, inl, inr, ◌⊎◌, refl, sym, ◌∙◌, subst}
use Rattle.std.proofs.lemmas.Option.{same_Some, none-some, slice_get_within}
use Rattle.lw_grammar.specs.declared.grammar.Grammar.{Grammar}
use Rattle.lw_grammar.specs.Subtypes.{IsSubtype}
use Rattle.lw_reading.specs.Numbers.{IsNumberOfType}
use Rattle.lw_numbers.specs.Numbering.{type_names}
use Rattle.lw_link_rules.specs.Links.{IsNumberBelow}
use Rattle.lw_numbers.specs.Kinship.{AreSubtypesOf, StandsBelow, TypeTable, same, below}
use Rattle.lw_machine.specs.Telling.{TellsTypes}
use Rattle.lw_machine.proofs.Finite.{Decided, is_below, some}
use Rattle.lw_machine.proofs.Finite as finite
use Rattle.lw_machine.proofs.Comparing.{same_text}
use Rattle.lw_machine.proofs.Nodes.{among}

module _ (table : TypeTable) (one other : List ℕ) where
  -- by the two rows of the table
  record IsByRows (i j : ℕ) : Type 0 where
    ups : List ℕ
    low : slice_get table.names i ≡ Some one
    high : slice_get table.names j ≡ Some other
    row : slice_get table.above i ≡ Some ups
    has : Contains ups j

  is_named : (k : ℕ) (name : List ℕ) → Decided (slice_get table.names k ≡ Some name)
  is_named k name = by (slice_get table.names k)
    where
      by : (o : Option (List ℕ)) → Decided (o ≡ Some name)
      by None = inr (λ is. none-some name is)
      by (Some found) = elim (same_text found name) [
        | inl is ↦ inl (λ i. Some (is i))
        | inr not ↦ inr (λ is. not (same_Some found name is))
      ]

  by_rows : (i j : ℕ) → Decided (IsByRows i j)
  by_rows i j = by (is_named i one) (is_named j other) (slice_get table.above i) refl
    where
      by_row : slice_get table.names i ≡ Some one → slice_get table.names j ≡ Some other → (ups : List ℕ) →
          slice_get table.above i ≡ Some ups → Decided (Contains ups j) → Decided (IsByRows i j)
      by_row low high ups row (inl has) = inl (record { ups = ups; low = low; high = high; row = row; has = has })
      by_row low high ups row (inr not) = inr (λ is. not (subst (λ us. Contains us j) (same_Some is.ups ups (sym is.row ∙ row)) is.has))

      by : Decided (slice_get table.names i ≡ Some one) → Decided (slice_get table.names j ≡ Some other) → (o : Option (List ℕ)) →
          slice_get table.above i ≡ o → Decided (IsByRows i j)
      by (inl low) (inl high) None absent = inr (λ is. none-some is.ups (sym absent ∙ is.row))
      by (inl low) (inl high) (Some ups) row = by_row low high ups row (among ups j)
      by (inl low) (inr not) o row = inr (λ is. not is.high)
      by (inr not) high o row = inr (λ is. not is.low)

  abbrev Rows : List ℕ
  Rows = finite.below (length table.names)

  abbrev SomeRow : ℕ → Type 0
  SomeRow i = (j : ℕ) × Contains Rows j × IsByRows i j

  row_at : (k : ℕ) (name : List ℕ) → slice_get table.names k ≡ Some name → Contains Rows k
  row_at k name at = is_below (length table.names) k (slice_get_within table.names k name at)

  rows : Decided ((i : ℕ) × Contains Rows i × SomeRow i)
  rows = some SomeRow (λ i. some (IsByRows i) (by_rows i) Rows) Rows

module _ (table : TypeTable) where
  -- by the names themselves, or by rows
  by_name_or_rows : (one other : List ℕ) → StandsBelow table one other →
      (one ≡ other) ⊎ ((i : ℕ) × Contains (Rows table one other) i × SomeRow table one other i)
  by_name_or_rows one other same = inl refl
  by_name_or_rows one other (below i j ups low high row has) = inr (
    i,
    row_at table one other i one low,
    (j, row_at table one other j other high, record { ups = ups; low = low; high = high; row = row; has = has }),
  )

  stands_below : (one other : List ℕ) → Decided (StandsBelow table one other)
  stands_below one other = by (same_text one other) (rows table one other)
    where
      by : Decided (one ≡ other) → Decided ((i : ℕ) × Contains (Rows table one other) i × SomeRow table one other i) →
          Decided (StandsBelow table one other)
      by (inl is) found = inl (subst (StandsBelow table one) is same)
      by (inr apart) (inl (i, at, (j, too, is))) = inl (below i j is.ups is.low is.high is.row is.has)
      by (inr apart) (inr not) = inr (λ stands. elim (by_name_or_rows one other stands) [ inl is ↦ apart is | inr found ↦ not found ])

pub tells_types : (g : Grammar) (table : TypeTable) → AreSubtypesOf g table → TellsTypes g
tells_types g table are low high = by (slice_get (type_names g) low) refl (slice_get (type_names g) high) refl
  where
    check : (one other : List ℕ) → IsNumberOfType g one low → IsNumberOfType g other high → Decided (StandsBelow table one other) →
        Decided (IsNumberBelow g low high)
    check one other is too (inl stands) = inl (record {
      one = one;
      other = other;
      one_is = is;
      other_is = too;
      below =
          (are.exact one other).1 stands;
    })
    check one other is too (inr not) =
        inr (λ lower. not ((are.exact one other).0
        (subst (λ name. IsSubtype g name other) (same_Some lower.one one (sym lower.one_is ∙ is))
        (subst (IsSubtype g lower.one) (same_Some lower.other other (sym lower.other_is ∙ too)) lower.below))))

    by : (o : Option (List ℕ)) → slice_get (type_names g) low ≡ o → (p : Option (List ℕ)) → slice_get (type_names g) high ≡ p →
        Decided (IsNumberBelow g low high)
    by None absent p at = inr (λ lower. none-some lower.one (sym absent ∙ lower.one_is))
    by (Some one) is None absent = inr (λ lower. none-some lower.other (sym absent ∙ lower.other_is))
    by (Some one) is (Some other) too = check one other is too (stands_below table one other)
