-- Where symbols of one container, one number of names and one type begin and end.
use Rattle.std.proofs.Common.{ℕ, ◌≡◌, ◌+◌, ◌≤◌, ◌<◌, inl, inr, true, false, List, Some, None, Contains, length, get_or, slice_get, refl, sym, ap, subst, ◌∙◌, arith}
use Rattle.std.proofs.lemmas.Bool.{cases_lt}
use Rattle.std.proofs.lemmas.Option.{same_Some, slice_get-get_or, slice_get_within, get_or_from_slice_get}
use Rattle.lw_tree.specs.Parts.{Parts}
use Rattle.lw_scoping.proofs.Places.{among}
use Rattle.lw_symbols.specs.declared.symbol.Symbol.{Symbol}
use Rattle.lw_symbols.specs.Symbols.{StandsUpTo, AreSymbolsSorted, AreSymbolsOf}
use Rattle.lw_symbols.specs.Least.{IsCalled, IsInGroup, IsInRun, IsLeastSymbol, least, absent}
use Rattle.lw_symbols.specs.Runs.{IsNextRun, before_type}
use Rattle.lw_symbols.proofs.Order.{from_not_before, is_before, is_not_before, up_to_before}

-- by what stands there
pub in_order_at : (symbols : List Symbol) (i j : ℕ) (one other : Symbol) → AreSymbolsSorted symbols → i ≤ j → slice_get symbols i ≡ Some one →
    slice_get symbols j ≡ Some other → StandsUpTo one other
in_order_at symbols i j one other ordered le at there =
    subst (λ (y : Symbol). StandsUpTo one y) (get_or_from_slice_get symbols j other one there)
    (subst (λ (x : Symbol). StandsUpTo x (get_or symbols j one)) (get_or_from_slice_get symbols i one one at)
    (ordered i j one le (slice_get_within symbols j other there)))

-- where one is before, all up to it are, and where one is not, none from it on is
module _ (container hash low : ℕ) (symbols : List Symbol) (ordered : AreSymbolsSorted symbols) (middle : ℕ) (m : Symbol)
    (at : slice_get symbols middle ≡ Some m) where
  pub all_before : before_type container hash low m ≡ true → (k : ℕ) (s : Symbol) → k < middle + 1 → slice_get symbols k ≡ Some s →
      before_type container hash low s ≡ true
  all_before is k s lt there = up_to_before container hash low s m (in_order_at symbols k middle s m ordered (omega (arith, lt)) there at) is

  pub none_before : before_type container hash low m ≡ false → (k : ℕ) (s : Symbol) → middle ≤ k → slice_get symbols k ≡ Some s →
      before_type container hash low s ≡ false
  none_before fails k s le there = from_not_before container hash low m s (in_order_at symbols middle k m s ordered le at there) fails

module _ (container hash low : ℕ) (symbols : List Symbol) (ordered : AreSymbolsSorted symbols) (place : ℕ)
    (before : (k : ℕ) (d : Symbol) → k < place → before_type container hash low (get_or symbols k d) ≡ true)
    (behind : (k : ℕ) (d : Symbol) → place ≤ k → k < length symbols → before_type container hash low (get_or symbols k d) ≡ false) where
  before_at : (k : ℕ) (s : Symbol) → k < place → slice_get symbols k ≡ Some s → before_type container hash low s ≡ true
  before_at k s lt at = ap (before_type container hash low) (sym (get_or_from_slice_get symbols k s s at)) ∙ before k s lt

  behind_at : (k : ℕ) (s : Symbol) → place ≤ k → slice_get symbols k ≡ Some s → before_type container hash low s ≡ false
  behind_at k s le at =
      ap (before_type container hash low) (sym (get_or_from_slice_get symbols k s s at)) ∙ behind k s le (slice_get_within symbols k s at)

  -- what is of this container and number, and of a type from there on, does not stand before the place
  not_sooner : (k : ℕ) (s : Symbol) → slice_get symbols k ≡ Some s → IsInGroup container hash s → low ≤ s.type_id.0 → place ≤ k
  not_sooner k s at in_group from = elim (cases_lt k place) [
    | inl lt ↦
        let h = is_before container hash low s (before_at k s lt at) in absurd (omega (arith, h.2 in_group.1 in_group.0, from))
    | inr le ↦ le
  ]

  -- so something is there, which is of them and of no greater type
  pub there_by : (k : ℕ) (s run : Symbol) → slice_get symbols k ≡ Some s → IsInGroup container hash s → low ≤ s.type_id.0 → slice_get symbols place ≡ Some run →
      IsInGroup container hash run × (run.type_id.0 ≤ s.type_id.0)
  there_by k s run at in_group from there =
      let le : place ≤ k = not_sooner k s at in_group from in
      let up = in_order_at symbols place k run s ordered le there at in
      let h = is_not_before container hash low run (behind_at place run (omega arith) there) in
      let two : run.hash ≡ hash = omega (arith, up.hash, h.0, in_group.1) in
      let one : run.container.0 ≡ container = omega (arith, two, up.container (omega (arith, two, in_group.1)), h.1 two, in_group.0) in
      ((one, two), up.type_ (omega (arith, one, in_group.0)) (omega (arith, two, in_group.1)))

  pub none_there : (run : Symbol) → slice_get symbols place ≡ Some run → ¬ IsInGroup container hash run → (s : Symbol) → Contains symbols s →
      IsInGroup container hash s → s.type_id.0 < low
  none_there run there out s (k, inside, is) in_group = elim (cases_lt s.type_id.0 low) [
    | inl lt ↦ lt
    | inr from ↦
        let at : slice_get symbols k ≡ Some s = slice_get-get_or symbols k s inside ∙ ap Some is in
        absurd (out (there_by k s run at in_group from there).0)
  ]

  pub next_there : (run : Symbol) → slice_get symbols place ≡ Some run → IsInGroup container hash run → IsNextRun container hash low symbols place run
  next_there run there in_group =
      let from : low ≤ run.type_id.0 = (is_not_before container hash low run (behind_at place run (omega arith) there)).2 in_group.1 in_group.0 in
      record {
        there = there;
        in_group = in_group;
        from_low = from;
        next = λ s has group lower.
            let at : slice_get symbols has.0 ≡ Some s = slice_get-get_or symbols has.0 s has.1 ∙ ap Some has.2 in
            (there_by has.0 s run at group lower there).1;
        begins = λ k s lt at same.
            let h = is_before container hash low s (before_at k s lt at) in
            omega (arith, h.2 (same.0.1 ∙ in_group.1) (same.0.0 ∙ in_group.0), same.1, from);
      }

-- ---- within a run

module _ (symbols : List Symbol) (ordered : AreSymbolsSorted symbols) (run : Symbol) (from : ℕ) (there : slice_get symbols from ≡ Some run) where
  -- what stands behind one that is no longer of the run is not either
  pub run_over : (place : ℕ) (s : Symbol) → from ≤ place → slice_get symbols place ≡ Some s → ¬ IsInRun run s → (k : ℕ) (other : Symbol) → place ≤ k →
      slice_get symbols k ≡ Some other → ¬ IsInRun run other
  run_over place s le at out k other le' at' same =
      let up = in_order_at symbols from place run s ordered le there at in
      let on = in_order_at symbols place k s other ordered le' at at' in
      let h : s.hash ≡ run.hash = omega (arith, up.hash, on.hash, same.0.1) in
      let c : s.container.0 ≡ run.container.0 = omega (arith, up.container (sym h), on.container (omega (arith, h, same.0.1)), same.0.0) in
      let t : s.type_id.0 ≡ run.type_id.0 =
      omega (arith, up.type_ (sym c) (sym h), on.type_ (omega (arith, c, same.0.0)) (omega (arith, h, same.0.1)), same.1) in
      out ((c, h), t)

  -- and within it nodes ascend
  pub run_up : (place : ℕ) (s : Symbol) → slice_get symbols place ≡ Some s → IsInRun run s → (k : ℕ) (other : Symbol) → place ≤ k →
      slice_get symbols k ≡ Some other → IsInRun run other → s.node.0 ≤ other.node.0
  run_up place s at in_run k other le at' same =
      let on = in_order_at symbols place k s other ordered le at at' in
      on.node (in_run.0.0 ∙ sym same.0.0) (in_run.0.1 ∙ sym same.0.1) (in_run.1 ∙ sym same.1)

-- ---- the first of a run with a name

module _ (symbols : List Symbol) (tree : Parts) (name : List ℕ) (are : AreSymbolsOf tree symbols) (run : Symbol) (from : ℕ)
    (there : slice_get symbols from ≡ Some run) (place : ℕ) (le : from ≤ place)
    (passed : (k : ℕ) (s : Symbol) → k < place → slice_get symbols k ≡ Some s → IsInRun run s → ¬ IsCalled tree name s) where
  -- where the run is over none is left
  pub none_called : (s : Symbol) → slice_get symbols place ≡ Some s → ¬ IsInRun run s →
      IsLeastSymbol (λ (s : Symbol). IsInRun run s × IsCalled tree name s) symbols None
  none_called s at out = absent (λ other has fits. misses other has fits)
    where
      misses : (other : Symbol) → Contains symbols other → IsInRun run other × IsCalled tree name other → ⊥
      misses other (k, inside, is) fits =
          let at' : slice_get symbols k ≡ Some other = slice_get-get_or symbols k other inside ∙ ap Some is in
          elim (cases_lt k place) [
            | inl lt ↦ passed k other lt at' fits.0 fits.1
            | inr ge ↦ run_over symbols are.ordered run from there place s le at out k other ge at' fits.0
          ]

  pub none_more : length symbols ≤ place → IsLeastSymbol (λ (s : Symbol). IsInRun run s × IsCalled tree name s) symbols None
  none_more end = absent (λ other has fits. misses other has fits)
    where
      misses : (other : Symbol) → Contains symbols other → IsInRun run other × IsCalled tree name other → ⊥
      misses other (k, inside, is) fits =
          passed k other (omega (arith, inside, end)) (slice_get-get_or symbols k other inside ∙ ap Some is) fits.0 fits.1

  pub called_there : (s : Symbol) → slice_get symbols place ≡ Some s → IsInRun run s → IsCalled tree name s →
      IsLeastSymbol (λ (s : Symbol). IsInRun run s × IsCalled tree name s) symbols (Some s.node)
  called_there s at in_run called = least s refl (among symbols place s at) (in_run, called) (λ other has fits. up other has fits)
    where
      up : (other : Symbol) → Contains symbols other → IsInRun run other × IsCalled tree name other → s.node.0 ≤ other.node.0
      up other (k, inside, is) fits =
          let at' : slice_get symbols k ≡ Some other = slice_get-get_or symbols k other inside ∙ ap Some is in
          elim (cases_lt k place) [
            | inl lt ↦ absurd (passed k other lt at' fits.0 fits.1)
            | inr ge ↦ run_up symbols are.ordered run from there place s at in_run k other ge at' fits.0
          ]

  pub one_more : (s : Symbol) → slice_get symbols place ≡ Some s → ¬ IsCalled tree name s → (k : ℕ) (other : Symbol) → k < place + 1 →
      slice_get symbols k ≡ Some other → IsInRun run other → ¬ IsCalled tree name other
  one_more s at fails k other lt at' in_run called = elim (cases_lt k place) [
    | inl less ↦ passed k other less at' in_run called
    | inr ge ↦
        let here : k ≡ place = omega (arith, lt, ge) in
        let same : other ≡ s = same_Some other s (sym at' ∙ ap (λ (n : ℕ). slice_get symbols n) here ∙ at) in
        fails (subst (IsCalled tree name) same called)
  ]

-- a symbol stands for a node
pub stands_for : (tree : Parts) (symbols : List Symbol) (k : ℕ) (s : Symbol) → AreSymbolsOf tree symbols → slice_get symbols k ≡ Some s → s.node.0 < length tree.nodes
stands_for tree symbols k s are at =
    let is = (are.exact s).0 (among symbols k s at) in slice_get_within tree.nodes s.node.0 is.node is.there
