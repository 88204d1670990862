-- Flags by node, and the nodes that they tell of.
use Rattle.std.proofs.Common.{◌≡◌, ℕ, ◌+◌, ◌<◌, ◌≤◌, ◌↔◌, IsTrue, below_more, List, [], ◌∷◌, ◌++◌, Bool, true, false, length, get_or, set, inl, inr, sym, ◌∙◌, subst, arith, true≢false}
use Rattle.std.specs.Prelude.{not, cond, count_by, replicate}
use Rattle.std.proofs.lemmas.Bool.{cases_lt}
use Rattle.std.proofs.lemmas.List.{get_or-replicate, get_or_append_left, get_or_past, get_or_push, length-replicate}
use Rattle.std.proofs.lemmas.List.Sums.{sum_by-set}
use Rattle.lw_graph.specs.Walks.{HasNode}

-- how many flags are not set falls by one
pub one_flag_less : (flags : List Bool) (node : ℕ) → node < length flags → get_or flags node false ≡ false → count_by not (set flags node true) + 1 ≡ count_by not flags
one_flag_less flags node inside fresh =
    subst (λ b. count_by not (set flags node true) + cond (not b) 1 0 ≡ count_by not flags) fresh
    (sum_by-set (λ b. cond (not b) 1 0) flags node true false inside ∙ omega arith)

-- no flag past the last is set
pub node_within : (flags : List Bool) (node : ℕ) → HasNode flags node → node < length flags
node_within flags node has = elim (cases_lt node (length flags)) [
  | inl inside ↦ inside
  | inr past ↦ absurd (true≢false (sym has ∙ get_or_past flags node false past))
]

-- none is set at first
pub no_nodes : (size node : ℕ) → HasNode (replicate size false) node → ⊥
no_nodes size node has = true≢false (sym has ∙ unset)
  where
    unset : get_or (replicate size false) node false ≡ false
    unset = elim (cases_lt node size) [
      | inl inside ↦ get_or-replicate size node false false inside
      | inr past ↦ get_or_past (replicate size false) node false (omega (arith, length-replicate {A = Bool} size false))
    ]

-- a flag behind the others tells of the next node
pub told_more : (P : ℕ → Type 0) (flags : List Bool) (flag : Bool) (node : ℕ) → length flags ≡ node → ((n : ℕ) → n < node → HasNode flags n ↔ P n) → IsTrue flag ↔ P node →
    (n : ℕ) → n < node + 1 → HasNode (flags ++ flag ∷ []) n ↔ P n
told_more P flags flag node size told here =
    below_more (λ n. HasNode (flags ++ flag ∷ []) n ↔ P n) node
    (λ n lt. subst (λ b. IsTrue b ↔ P n) (sym (get_or_append_left flags (flag ∷ []) false n (omega arith))) (told n lt))
    (subst (λ b. IsTrue b ↔ P node) (sym (get_or_push flags flag false node size)) here)

-- what holds of no node past the last is told of each node
pub told_all : (P : ℕ → Type 0) (flags : List Bool) → ((n : ℕ) → n < length flags → HasNode flags n ↔ P n) → ((n : ℕ) → P n → n < length flags) →
    (n : ℕ) → HasNode flags n ↔ P n
told_all P flags told within n = elim (cases_lt n (length flags)) [
  | inl lt ↦ told n lt
  | inr past ↦ (λ has. absurd (past_end past (node_within flags n has)), λ holds. absurd (past_end past (within n holds)))
]
  where
    past_end : length flags ≤ n → n < length flags → ⊥
    past_end past lt = omega arith
