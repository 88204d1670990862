-- The least node of a name and a type is in the run of that type, where there is one.
use Rattle.std.proofs.Common.{ℕ, ◌≡◌, ◌≢◌, ◌<◌, List, Option, None, Contains, sym, ◌∙◌, arith}
use Rattle.lw_base.specs.declared.numbers.NodeId.{NodeId}
use Rattle.lw_tree.specs.Parts.{Parts}
use Rattle.lw_symbols.specs.declared.symbol.Symbol.{Symbol}
use Rattle.lw_symbols.specs.Least.{IsCalled, IsInGroup, IsInRun, IsLeastSymbol, IsWantedSymbol, absent}
use Rattle.lw_symbols.specs.Runs.{IsNextRun}
use Rattle.lw_symbols.proofs.Leasts.{least_same}

module _ (container hash : ℕ) (tree : Parts) (name : List ℕ) (type : ℕ) (symbols : List Symbol) where
  abbrev pub IsOfType : Symbol → Type 0
  IsOfType s = IsInGroup container hash s × IsWantedSymbol tree name (λ t. t ≡ type) s

  pub none_of_type : ((s : Symbol) → Contains symbols s → IsInGroup container hash s → s.type_id.0 < type) → IsLeastSymbol IsOfType symbols None
  none_of_type below = absent (λ s has (group, (called, is)). omega (arith, below s has group, is))

  module _ (i : ℕ) (run : Symbol) (next : IsNextRun container hash type symbols i run) where
    pub none_of_run : run.type_id.0 ≢ type → IsLeastSymbol IsOfType symbols None
    none_of_run other = absent (λ s has (group, (called, is)). other (omega (arith, next.from_low, next.next s has group (omega (arith, is)), is)))

    pub of_run : run.type_id.0 ≡ type → (found : Option NodeId) → IsLeastSymbol (λ (s : Symbol). IsInRun run s × IsCalled tree name s) symbols found →
        IsLeastSymbol IsOfType symbols found
    of_run same found is =
        least_same is
        (λ s (in_run, called). ((in_run.0.0 ∙ next.in_group.0, in_run.0.1 ∙ next.in_group.1), (called, in_run.1 ∙ same)))
        (λ s has (group, (called, typed)). (((group.0 ∙ sym next.in_group.0, group.1 ∙ sym next.in_group.1), typed ∙ sym same), called))
