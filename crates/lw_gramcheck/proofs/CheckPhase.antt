-- What is found one kind after the other are all faults of the phase.
use Rattle.std.proofs.Common.{ℕ, ◌≡◌, List, [], ◌∷◌, ◌⊎◌, ◌↔◌, inl, inr, Contains, refl, sym, subst, arith}
use Rattle.lw_base.specs.declared.token.Span.{Span}
use Rattle.lw_grammar.specs.declared.fault.GrammarFault.{GrammarFault}
use Rattle.lw_grammar.specs.declared.grammar.Grammar.{Grammar}
use Rattle.lw_faults.specs.Entries.{NoEntry, SecondEntry, EntryMakesNoNode, TooManyRules}
use Rattle.lw_faults.specs.Derivations.{LeftRecursion, ReadsNothing, RepeatsNothing, NeverEnds}
use Rattle.lw_faults.specs.Misplaced.{MisplacedAction, MisplacedCall}
use Rattle.lw_faults.specs.DataTypes.{MixedDataTypeRule}
use Rattle.lw_faults.specs.Circles.{CircularCall}
use Rattle.lw_faults.specs.BadCalls.{BadCall, BadAssignment}
use Rattle.lw_faults.specs.Faults.{fault, IsCheckFault, HasNoCircle, AreFaults, AreCheckFaults}
use Rattle.lw_faults.specs.Faults as is
use Rattle.lw_faults.specs.Finding.{Finds, IsFaultOf}
use Rattle.lw_faults.proofs.Joining.{Finds-iff, Finds-then}
use Rattle.lw_gramcheck.specs.Plain as plain
use Rattle.lw_gramcheck.specs.Plain.{IsPlainFault}
use Rattle.lw_gramcheck.specs.Reading as reads
use Rattle.lw_gramcheck.specs.Reading.{IsReadingFault}

module _ (g : Grammar) where
  -- ---- what rules read, and what they do

  abbrev pub IsDerivationFault : GrammarFault → Type 0
  IsDerivationFault f = IsFaultOf 7 (LeftRecursion g) f ⊎ IsFaultOf 8 (ReadsNothing g) f ⊎ IsFaultOf 9 (RepeatsNothing g) f ⊎ IsFaultOf 10 (NeverEnds g) f

  abbrev pub IsOrderFault : GrammarFault → Type 0
  IsOrderFault f = IsFaultOf 11 (MisplacedAction g) f ⊎ IsFaultOf 12 (MisplacedCall g) f

  of_reading : (f : GrammarFault) → IsDerivationFault f ⊎ IsOrderFault f → IsReadingFault g f
  of_reading f (inl (inl so)) = reads.left_recursion so
  of_reading f (inl (inr (inl so))) = reads.reads_nothing so
  of_reading f (inl (inr (inr (inl so)))) = reads.repeats_nothing so
  of_reading f (inl (inr (inr (inr so)))) = reads.never_ends so
  of_reading f (inr (inl so)) = reads.misplaced_action so
  of_reading f (inr (inr so)) = reads.misplaced_call so

  in_reading : (f : GrammarFault) → IsReadingFault g f → IsDerivationFault f ⊎ IsOrderFault f
  in_reading f (reads.left_recursion so) = inl (inl so)
  in_reading f (reads.reads_nothing so) = inl (inr (inl so))
  in_reading f (reads.repeats_nothing so) = inl (inr (inr (inl so)))
  in_reading f (reads.never_ends so) = inl (inr (inr (inr so)))
  in_reading f (reads.misplaced_action so) = inr (inl so)
  in_reading f (reads.misplaced_call so) = inr (inr so)

  pub reading_found : {a b c : List GrammarFault} → Finds IsDerivationFault a b → Finds IsOrderFault b c → Finds (IsReadingFault g) a c
  reading_found derivations order = Finds-iff (λ f. (of_reading f, in_reading f)) (Finds-then derivations order)

  -- ---- the phase

  by_number : (n : ℕ) (P : ℕ → Span → List ℕ → Type 0) → ((file : ℕ) (s : Span) (name : List ℕ) → P file s name → IsCheckFault g (fault n file s name)) →
      (f : GrammarFault) → IsFaultOf n P f → IsCheckFault g f
  by_number n P make f (number, so) = let Q : ℕ → Type 0 = λ k. IsCheckFault g (fault k f.file f.span f.name) in subst Q (sym number) (make f.file f.span f.name so)

  of_plain : (f : GrammarFault) → IsPlainFault g f → IsCheckFault g f
  of_plain f (plain.no_entry so) = by_number 1 (NoEntry g) (λ file s name. is.no_entry) f so
  of_plain f (plain.second_entry so) = by_number 2 (SecondEntry g) (λ file s name. is.second_entry) f so
  of_plain f (plain.entry_makes_no_node so) = by_number 3 (EntryMakesNoNode g) (λ file s name. is.entry_makes_no_node) f so
  of_plain f (plain.mixed_data_type_rule so) = by_number 13 (MixedDataTypeRule g) (λ file s name. is.mixed_data_type_rule) f so
  of_plain f (plain.bad_call so) = by_number 21 (BadCall g) (λ file s name. is.bad_call) f so
  of_plain f (plain.bad_assignment so) = by_number 22 (BadAssignment g) (λ file s name. is.bad_assignment) f so
  of_plain f (plain.too_many_rules so) = by_number 23 (TooManyRules g) (λ file s name. is.too_many_rules) f so

  of_read : HasNoCircle g → (f : GrammarFault) → IsReadingFault g f → IsCheckFault g f
  of_read none f (reads.left_recursion so) = by_number 7 (LeftRecursion g) (λ file s name. is.left_recursion none) f so
  of_read none f (reads.reads_nothing so) = by_number 8 (ReadsNothing g) (λ file s name. is.reads_nothing none) f so
  of_read none f (reads.repeats_nothing so) = by_number 9 (RepeatsNothing g) (λ file s name. is.repeats_nothing none) f so
  of_read none f (reads.never_ends so) = by_number 10 (NeverEnds g) (λ file s name. is.never_ends none) f so
  of_read none f (reads.misplaced_action so) = by_number 11 (MisplacedAction g) (λ file s name. is.misplaced_action none) f so
  of_read none f (reads.misplaced_call so) = by_number 12 (MisplacedCall g) (λ file s name. is.misplaced_call none) f so

  abbrev InTurn : GrammarFault → Type 0
  InTurn f = (IsFaultOf 20 (CircularCall g) f ⊎ IsPlainFault g f) ⊎ (HasNoCircle g × IsReadingFault g f)

  of_phase : (f : GrammarFault) → InTurn f → IsCheckFault g f
  of_phase f (inl (inl so)) = by_number 20 (CircularCall g) (λ file s name. is.circular_call) f so
  of_phase f (inl (inr so)) = of_plain f so
  of_phase f (inr (none, so)) = of_read none f so

  in_phase : (f : GrammarFault) → IsCheckFault g f → InTurn f
  in_phase f (is.no_entry so) = inl (inr (plain.no_entry (refl, so)))
  in_phase f (is.second_entry so) = inl (inr (plain.second_entry (refl, so)))
  in_phase f (is.entry_makes_no_node so) = inl (inr (plain.entry_makes_no_node (refl, so)))
  in_phase f (is.left_recursion none so) = inr (none, reads.left_recursion (refl, so))
  in_phase f (is.reads_nothing none so) = inr (none, reads.reads_nothing (refl, so))
  in_phase f (is.repeats_nothing none so) = inr (none, reads.repeats_nothing (refl, so))
  in_phase f (is.never_ends none so) = inr (none, reads.never_ends (refl, so))
  in_phase f (is.misplaced_action none so) = inr (none, reads.misplaced_action (refl, so))
  in_phase f (is.misplaced_call none so) = inr (none, reads.misplaced_call (refl, so))
  in_phase f (is.mixed_data_type_rule so) = inl (inr (plain.mixed_data_type_rule (refl, so)))
  in_phase f (is.circular_call so) = inl (inl (refl, so))
  in_phase f (is.bad_call so) = inl (inr (plain.bad_call (refl, so)))
  in_phase f (is.bad_assignment so) = inl (inr (plain.bad_assignment (refl, so)))
  in_phase f (is.too_many_rules so) = inl (inr (plain.too_many_rules (refl, so)))

  -- ---- circles, which are looked for first

  nothing_in : {xs : List GrammarFault} → xs ≡ [] → (f : GrammarFault) → ¬ Contains xs f
  nothing_in {xs} none f has = let P : List GrammarFault → Type 0 = λ ys. Contains ys f in let (k, inside, at) = subst P none has in omega (arith, inside)

  none_of : (xs : List GrammarFault) → ((f : GrammarFault) → ¬ Contains xs f) → xs ≡ []
  none_of [] none = refl
  none_of (x ∷ xs) none = absurd (none x (0, omega arith, refl))

  module _ {a b : List GrammarFault} (empty : a ≡ []) (circles : Finds (IsFaultOf 20 (CircularCall g)) a b) where
    without_circle : b ≡ [] → HasNoCircle g
    without_circle none file s name so = nothing_in none (fault 20 file s name) ((circles.exact (fault 20 file s name)).1 (inr (refl, so)))

    found_none : HasNoCircle g → b ≡ []
    found_none none = none_of b each
      where
        each : (f : GrammarFault) → ¬ Contains b f
        each f has = by ((circles.exact f).0 has)
          where
            by : Contains a f ⊎ IsFaultOf 20 (CircularCall g) f → ⊥
            by (inl before) = nothing_in empty f before
            by (inr (number, so)) = none f.file f.span f.name so

    -- what was found one after the other, and is listed, are the faults of the phase
    pub all_check_faults : {c d list : List GrammarFault} {Free : Type 0} → Free ↔ (b ≡ []) → Finds (IsPlainFault g) b c →
        Finds (λ f. Free × IsReadingFault g f) c d → AreFaults (Contains d) list → AreCheckFaults g list
    all_check_faults {c} {d} {list} {Free} free plain_found read listed =
        record { all = λ f. (λ has. from f ((listed.all f).0 has), λ so. (listed.all f).1 (into f so)); sorted = listed.sorted }
      where
        all : Finds (λ f. (IsFaultOf 20 (CircularCall g) f ⊎ IsPlainFault g f) ⊎ (Free × IsReadingFault g f)) a d
        all = Finds-then (Finds-then circles plain_found) read

        from : (f : GrammarFault) → Contains d f → IsCheckFault g f
        from f has = by ((all.exact f).0 has)
          where
            by : Contains a f ⊎ ((IsFaultOf 20 (CircularCall g) f ⊎ IsPlainFault g f) ⊎ (Free × IsReadingFault g f)) → IsCheckFault g f
            by (inl before) = absurd (nothing_in empty f before)
            by (inr (inl so)) = of_phase f (inl so)
            by (inr (inr (so, is))) = of_phase f (inr (without_circle (free.0 so), is))

        into : (f : GrammarFault) → IsCheckFault g f → Contains d f
        into f so = by (in_phase f so)
          where
            by : InTurn f → Contains d f
            by (inl is) = (all.exact f).1 (inr (inl is))
            by (inr (none, is)) = (all.exact f).1 (inr (inr (free.1 (found_none none), is)))
