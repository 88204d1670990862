-- The least node that is wanted, type by type.
use Rattle.std.proofs.Common.{ℕ, ◌≡◌, ◌+◌, ◌≤◌, ◌<◌, ◌⊎◌, inl, inr, true, false, List, Option, None, Contains, sym, ap, ◌∙◌, true≢false, arith}
use Rattle.std.specs.FinSet.{FinSet, contains}
use Rattle.std.specs.Ordering.{nat_cmp}
use Rattle.std.proofs.lemmas.Bool.{cases_lt}
use Rattle.lw_base.specs.declared.numbers.NodeId.{NodeId}
use Rattle.lw_tree.specs.Parts.{Parts}
use Rattle.lw_symbols.specs.declared.symbol.Symbol.{Symbol}
use Rattle.lw_symbols.specs.Least.{IsCalled, IsInGroup, IsInRun, IsLeastSymbol, IsWantedSymbol, absent, lesser_node}
use Rattle.lw_symbols.specs.Runs.{IsNextRun}
use Rattle.lw_symbols.proofs.Leasts.{least_same, least_of_both}

module _ (container hash : ℕ) (tree : Parts) (name : List ℕ) (fits : FinSet nat_cmp) (symbols : List Symbol) where
  abbrev pub IsPassed : ℕ → Symbol → Type 0
  IsPassed low s = (s.type_id.0 < low) × (IsInGroup container hash s × IsWantedSymbol tree name (λ type. contains fits type ≡ true) s)

  pub nothing_passed : IsLeastSymbol (IsPassed 0) symbols None
  nothing_passed = absent (λ s has is. omega (arith, is.0))

  module _ (low i : ℕ) (run : Symbol) (next : IsNextRun container hash low symbols i run) where
    of_type : (s : Symbol) → Contains symbols s → IsInGroup container hash s → low ≤ s.type_id.0 → s.type_id.0 < run.type_id.0 + 1 → s.type_id.0 ≡ run.type_id.0
    of_type s has group ge lt = omega (arith, next.next s has group ge, lt)

    pub passed_yes : (best called : Option NodeId) → contains fits run.type_id.0 ≡ true → IsLeastSymbol (IsPassed low) symbols best →
        IsLeastSymbol (λ (s : Symbol). IsInRun run s × IsCalled tree name s) symbols called → IsLeastSymbol (IsPassed (run.type_id.0 + 1)) symbols (lesser_node best called)
    passed_yes best called wanted old new =
        least_of_both (IsPassed low) (λ (s : Symbol). IsInRun run s × IsCalled tree name s) (IsPassed (run.type_id.0 + 1)) symbols forth back either best called old new
      where
        forth : (s : Symbol) → IsPassed low s → IsPassed (run.type_id.0 + 1) s
        forth s is = (omega (arith, is.0, next.from_low), is.1)

        back : (s : Symbol) → IsInRun run s × IsCalled tree name s → IsPassed (run.type_id.0 + 1) s
        back s (same, called) = (
          omega (arith, same.1),
          ((same.0.0 ∙ next.in_group.0, same.0.1 ∙ next.in_group.1), (called, ap (contains fits) same.1 ∙ wanted)),
        )

        either : (s : Symbol) → Contains symbols s → IsPassed (run.type_id.0 + 1) s → IsPassed low s ⊎ (IsInRun run s × IsCalled tree name s)
        either s has (lt, (group, want)) = elim (cases_lt s.type_id.0 low) [
          | inl less ↦ inl (less, (group, want))
          | inr ge ↦
              inr (((group.0 ∙ sym next.in_group.0, group.1 ∙ sym next.in_group.1), of_type s has group ge lt), want.0)
        ]

    pub passed_no : (best : Option NodeId) → contains fits run.type_id.0 ≡ false → IsLeastSymbol (IsPassed low) symbols best →
        IsLeastSymbol (IsPassed (run.type_id.0 + 1)) symbols best
    passed_no best unwanted old = least_same old (λ s is. (omega (arith, is.0, next.from_low), is.1)) back
      where
        back : (s : Symbol) → Contains symbols s → IsPassed (run.type_id.0 + 1) s → IsPassed low s
        back s has (lt, (group, want)) = elim (cases_lt s.type_id.0 low) [
          | inl less ↦ (less, (group, want))
          | inr ge ↦ absurd (true≢false (sym want.1 ∙ ap (contains fits) (of_type s has group ge lt) ∙ unwanted))
        ]

  pub all_passed : (low : ℕ) (best : Option NodeId) → ((s : Symbol) → Contains symbols s → IsInGroup container hash s → s.type_id.0 < low) →
      IsLeastSymbol (IsPassed low) symbols best → IsLeastSymbol (λ (s : Symbol). IsInGroup container hash s × IsWantedSymbol tree name (λ type. contains fits type ≡ true) s) symbols best
  all_passed low best over old = least_same old (λ s is. is.1) (λ s has is. (over s has is.0, is))
