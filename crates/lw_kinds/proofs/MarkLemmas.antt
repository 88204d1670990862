-- Marks of places, one kind after the other.
use Rattle.std.proofs.Common.{◌≡◌, ℕ, ◌<◌, ◌↔◌, ◌⊎◌, inl, inr, List, Bool, true, false, length, get_or, set, refl, sym, ◌∙◌, subst, arith, true≢false}
use Rattle.std.specs.Prelude.{replicate}
use Rattle.std.proofs.lemmas.Bool.{cases_eq, cases_lt}
use Rattle.std.proofs.lemmas.List.{get_or-set_same, get_or-set_other, get_or-replicate, get_or_past, length-replicate, length-set}
use Rattle.lw_graph.specs.Walks.{HasNode}
use Rattle.lw_kinds.specs.Calls.{Marks}

module _ {is_so : ℕ → Type 0} where
  pub Marks-none : ((t : ℕ) → ¬ is_so t) → (marks : List Bool) → Marks is_so marks marks
  Marks-none none marks = record { size = refl; exact = λ t. (λ has. inl has, λ either. elim either [ inl has ↦ has | inr does ↦ absurd (none t does) ]) }

  pub Marks-same : {was_so : ℕ → Type 0} {old new : List Bool} → ((t : ℕ) → is_so t ↔ was_so t) → Marks is_so old new → Marks was_so old new
  Marks-same same marks = record {
    size = marks.size;
    exact = λ t. (
      λ has. elim ((marks.exact t).0 has) [ inl had ↦ inl had | inr is ↦ inr ((same t).0 is) ],
      λ either. (marks.exact t).1 (elim either [ inl had ↦ inl had | inr was ↦ inr ((same t).1 was) ]),
    );
  }

  pub Marks-then : {other both : ℕ → Type 0} {old mid new : List Bool} → ((t : ℕ) → both t ↔ (is_so t ⊎ other t)) → Marks is_so old mid → Marks other mid new →
      Marks both old new
  Marks-then {other} {both} {old} {mid} {new} same one two = record { size = two.size ∙ one.size; exact = λ t. (forth t, back t) }
    where
      forth : (t : ℕ) → HasNode new t → HasNode old t ⊎ both t
      forth t has = elim ((two.exact t).0 has) [
        | inl before ↦ elim ((one.exact t).0 before) [
          | inl had ↦ inl had
          | inr sooner ↦ inr ((same t).1 (inl sooner))
        ]
        | inr later ↦ inr ((same t).1 (inr later))
      ]

      back : (t : ℕ) → HasNode old t ⊎ both t → HasNode new t
      back t either = elim either [
        | inl had ↦ (two.exact t).1 (inl ((one.exact t).1 (inl had)))
        | inr is ↦ elim ((same t).0 is) [
          | inl sooner ↦ (two.exact t).1 (inl ((one.exact t).1 (inr sooner)))
          | inr later ↦ (two.exact t).1 (inr later)
        ]
      ]

-- none is set at first
pub none_marked : (size t : ℕ) → HasNode (replicate size false) t → ⊥
none_marked size t has = true≢false (sym has ∙ unset)
  where
    unset : get_or (replicate size false) t false ≡ false
    unset = elim (cases_lt t size) [
      | inl inside ↦ get_or-replicate size t false false inside
      | inr past ↦ get_or_past (replicate size false) t false (omega (arith, length-replicate {A = Bool} size false))
    ]

-- the one place that is written
pub Marks-set : (marks : List Bool) (place : ℕ) → place < length marks → Marks (λ t. place ≡ t) marks (set marks place true)
Marks-set marks place inside = record { size = length-set marks place true; exact = λ t. (forth t, back t) }
  where
    here : HasNode (set marks place true) place
    here = get_or-set_same marks place true false inside

    forth : (t : ℕ) → HasNode (set marks place true) t → HasNode marks t ⊎ (place ≡ t)
    forth t has = elim (cases_eq t place) [
      | inl same ↦ inr (sym same)
      | inr differs ↦ inl (sym (get_or-set_other marks place t true false differs) ∙ has)
    ]

    back : (t : ℕ) → HasNode marks t ⊎ (place ≡ t) → HasNode (set marks place true) t
    back t either = elim (cases_eq t place) [
      | inl same ↦ subst (HasNode (set marks place true)) (sym same) here
      | inr differs ↦ elim either [
        | inl had ↦ get_or-set_other marks place t true false differs ∙ had
        | inr is ↦ absurd (differs (sym is))
      ]
    ]
