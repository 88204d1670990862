-- Each type has a lineage, with any interfaces open.
use Rattle.std.proofs.Common.{◌≡◌, ℕ, zero, suc, ◌+◌, ◌≤◌, List, [], ◌∷◌, ◌++◌, false, ◌||◌, slice_get, Some, inl, inr, refl, sym, ap, ◌∙◌, arith, nat_eq}
use Rattle.std.proofs.lemmas.Bool.{cases_Bool, ne_eqb, eq-eqb, or_left, false≢true}
use Rattle.lw_grammar.specs.declared.grammar.Grammar.{Grammar}
use Rattle.lw_grammar.specs.declared.declared_types.Interface.{Interface}
use Rattle.lw_grammar.specs.Named.{IsInterface}
use Rattle.lw_faults.specs.Attributes.{Lineage, Lineages}
use Rattle.lw_faults.specs.Attributes as above
use Rattle.lw_properties.specs.Search.{names_above}
use Rattle.lw_properties.proofs.Deciding.{interface_or_none}
use Rattle.lw_properties.proofs.Unseen.{unseen, one_seen, stands, stands_in, in_stands}

module _ (g : Grammar) where
  -- one more is open
  one_open : (entered : List ℕ) (i : ℕ) (own : Interface) → slice_get g.interfaces i ≡ Some own → stands entered i ≡ false →
      unseen (λ _. 1) (stands (i ∷ entered)) 0 g.interfaces + 1 ≡ unseen (λ _. 1) (stands entered) 0 g.interfaces
  one_open entered i own there fresh =
      one_seen (λ (_ : Interface). 1) (stands entered) (stands (i ∷ entered)) 0 i i g.interfaces own there (omega arith) fresh
      (or_left (nat_eq i i) (stands entered i) (eq-eqb i i refl)) (λ n apart. ap (λ b. b || stands entered n) (ne_eqb n i apart))

  lineages_of : {entered : List ℕ} → ((name : List ℕ) → (found : List Interface) × Lineage g entered name found) → (names : List (List ℕ)) →
      (found : List Interface) × Lineages g entered names found
  lineages_of each [] = ([], above.none)
  lineages_of each (name ∷ names) =
      let first = each name in let others = lineages_of each names in
      (first.0 ++ others.0, above.more first.1 others.1)

  lineage_by : (entered name : List ℕ) →
      ((i : ℕ) (own : Interface) → IsInterface g name i own → stands entered i ≡ false → (other : List ℕ) → (found : List Interface) × Lineage g (i ∷ entered) other found) →
      (found : List Interface) × Lineage g entered name found
  lineage_by entered name inside = elim (interface_or_none g name) [
    | inr none ↦ ([], above.no_interface none)
    | inl meant ↦ elim (cases_Bool (stands entered meant.0)) [
      | inl open_ ↦ ([], above.looped meant.0 meant.1 meant.2 (stands_in entered meant.0 open_))
      | inr fresh ↦
          let others = lineages_of (inside meant.0 meant.1 meant.2 fresh) (names_above meant.1) in
          (meant.1 ∷ others.0, above.interface meant.0 meant.1 meant.2 (λ has. false≢true (sym fresh ∙ in_stands entered meant.0 has)) others.1)
    ]
  ]

  lineage_within : (n : ℕ) (entered : List ℕ) → unseen (λ _. 1) (stands entered) 0 g.interfaces ≤ n → (name : List ℕ) →
      (found : List Interface) × Lineage g entered name found
  lineage_within zero entered small name =
      lineage_by entered name (λ i own is fresh other. let more = one_open entered i own is.first.there fresh in absurd (omega arith))
  lineage_within (suc n) entered small name =
      lineage_by entered name (λ i own is fresh other. let more = one_open entered i own is.first.there fresh in lineage_within n (i ∷ entered) (omega arith) other)

  pub some_lineage : (entered name : List ℕ) → (found : List Interface) × Lineage g entered name found
  some_lineage entered name = lineage_within (unseen (λ _. 1) (stands entered) 0 g.interfaces) entered (omega arith) name
