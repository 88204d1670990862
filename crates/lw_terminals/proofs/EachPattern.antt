-- In a well-formed grammar without faults each terminal has a pattern: calls come to an end, since none is called that led there.
use Rattle.std.proofs.Common.{◌≡◌, ℕ, zero, suc, ◌+◌, ◌<◌, ◌≤◌, List, Bool, true, false, length, get_or, set, slice_get, Contains, Some, inl, inr, refl, sym, ap, ◌∙◌, subst, arith, true≢false}
use Rattle.std.specs.Prelude.{not, cond, count_by, replicate}
use Rattle.std.proofs.lemmas.Bool.{cases_eq, cases_lt}
use Rattle.std.proofs.lemmas.List.{get_or-replicate, get_or_past, get_or-set_other, length-replicate, length-set}
use Rattle.std.proofs.lemmas.List.Sums.{sum_by-set}
use Rattle.std.proofs.lemmas.Option.{slice_get-get_or, slice_get_within, get_or_from_slice_get}
use Rattle.lw_base.specs.declared.token.Span.{Span}
use Rattle.lw_grammar.specs.declared.fault.GrammarFault.{GrammarFault}
use Rattle.lw_grammar.specs.declared.grammar.Grammar.{Grammar}
use Rattle.lw_grammar.specs.declared.terminal.Terminal.{Terminal}
use Rattle.lw_grammar.specs.Named.{IsTerminal}
use Rattle.lw_faults.specs.Circles as circles
use Rattle.lw_faults.specs.Circles.{TerminalCalls}
use Rattle.lw_faults.specs.Faults as faults
use Rattle.lw_faults.specs.Faults.{IsTypeFault, IsCheckFault, fault}
use Rattle.lw_grammar.specs.Written.{term_calls}
use Rattle.lw_graph.specs.Walks.{HasNode}
use Rattle.lw_tokens.specs.Patterns.{TerminalPattern}
use Rattle.lw_grammar.specs.WellFormed.{IsWellFormed}
use Rattle.lw_terminals.proofs.Calling.{calls_terminal}
use Rattle.lw_terminals.proofs.Ranging.{ranges_have_ends}
use Rattle.lw_terminals.proofs.ReadyBodies.{ready_body}
use Rattle.lw_terminals.proofs.ReadyPatterns.{terminal_has}

-- how many flags are not set falls by one
one_flag_less : (flags : List Bool) (t : ℕ) → t < length flags → get_or flags t false ≡ false → count_by not (set flags t true) + 1 ≡ count_by not flags
one_flag_less flags t inside fresh =
    subst (λ b. count_by not (set flags t true) + cond (not b) 1 0 ≡ count_by not flags) fresh
    (sum_by-set (λ b. cond (not b) 1 0) flags t true false inside ∙ omega arith)

-- none is set at first
no_flags : (size t : ℕ) → HasNode (replicate size false) t → ⊥
no_flags size t has = true≢false (sym has ∙ unset)
  where
    unset : get_or (replicate size false) t false ≡ false
    unset = elim (cases_lt t size) [
      | inl inside ↦ get_or-replicate size t false false inside
      | inr past ↦ get_or_past (replicate size false) t false (omega (arith, length-replicate {A = Bool} size false))
    ]

module _ (g : Grammar) (well_formed : IsWellFormed g) (no_type_fault : (f : GrammarFault) → ¬ IsTypeFault g f)
    (no_check_fault : (f : GrammarFault) → ¬ IsCheckFault g f) where
  abbrev HasPattern : Terminal → Type 0
  HasPattern x = (p : List ℕ) × TerminalPattern g x p

  -- the terminal at this place has a pattern
  abbrev IsKnown : ℕ → Type 0
  IsKnown u = (x : Terminal) → slice_get g.terminals u ≡ Some x → HasPattern x

  module _ (t : ℕ) (x : Terminal) (at : slice_get g.terminals t ≡ Some x) where
    there : Contains g.terminals x
    there = (t, slice_get_within g.terminals t x at, get_or_from_slice_get g.terminals t x x at)

    no_circle : ¬ TerminalCalls g t t
    no_circle round = no_check_fault (fault 20 x.file x.span x.name) (faults.circular_call (circles.terminal t x at round))

    -- where all that it calls have patterns
    pattern_from : ((name : List ℕ) (s : Span) (u : ℕ) (called : Terminal) → Contains (term_calls x.body) (name, s) → IsTerminal g name u called → IsKnown u) → HasPattern x
    pattern_from known =
        terminal_has g IsKnown (λ name u called is so. so called is.first.there) x
        (ready_body g IsKnown x.body
        (λ name s has. let means = calls_terminal g no_type_fault no_check_fault x name s there has in (means.0, means.1, means.2, known name s means.0 means.1 has means.2))
        (λ from to s has. ranges_have_ends g no_check_fault x there from to s has) (well_formed.no_empty_choice x there))

  -- the flags are set of those that led to t, and there are so many others
  pattern_at : (others : ℕ) (flags : List Bool) → length flags ≡ length g.terminals → count_by not flags ≤ others → (t : ℕ) →
      ((v : ℕ) → HasNode flags v → TerminalCalls g v t) → IsKnown t
  pattern_at zero flags size few t led x at = by (get_or flags t false) refl
    where
      by : (b : Bool) → get_or flags t false ≡ b → HasPattern x
      by true has = absurd (no_circle t x at (led t has))
      by false fresh = absurd (let less = one_flag_less flags t (omega (arith, size, slice_get_within g.terminals t x at)) fresh in omega (arith, less, few))
  pattern_at (suc others) flags size few t led x at = by (get_or flags t false) refl (pattern_at others)
    where
      by : (b : Bool) → get_or flags t false ≡ b →
          ((more : List Bool) → length more ≡ length g.terminals → count_by not more ≤ others → (u : ℕ) → ((v : ℕ) → HasNode more v → TerminalCalls g v u) → IsKnown u) →
          HasPattern x
      by true has deeper = absurd (no_circle t x at (led t has))
      by false fresh deeper =
          let less = one_flag_less flags t (omega (arith, size, slice_get_within g.terminals t x at)) fresh in
          pattern_from t x at (λ name s u called has is. deeper (set flags t true) (length-set flags t true ∙ size) (omega (arith, less, few)) u (λ v set_now. elim (cases_eq v t) [
            | inl same ↦ subst (λ n. TerminalCalls g n u) (sym same) (circles.directly x called name s at has is)
            | inr differs ↦ circles.over (led v (sym (get_or-set_other flags t v true false differs) ∙ set_now)) (circles.directly x called name s at has is)
          ]))

  pub each_pattern : (x : Terminal) → Contains g.terminals x → HasPattern x
  each_pattern x (t, inside, is) =
      let flags = replicate (length g.terminals) false in
      pattern_at (count_by not flags) flags (length-replicate {A = Bool} (length g.terminals) false) (let least : count_by not flags ≤ count_by not flags = omega arith in least) t
      (λ v has. absurd (no_flags (length g.terminals) v has)) x (slice_get-get_or g.terminals t x inside ∙ ap Some is)
