-- All that is found without a look at what rules read, one kind of faults after the other.
use Rattle.std.proofs.Common.{List, ◌⊎◌, inl, inr}
use Rattle.lw_grammar.specs.declared.fault.GrammarFault.{GrammarFault}
use Rattle.lw_grammar.specs.declared.grammar.Grammar.{Grammar}
use Rattle.lw_faults.specs.BadCalls.{BadCall, BadAssignment}
use Rattle.lw_faults.specs.DataTypes.{MixedDataTypeRule}
use Rattle.lw_faults.specs.Entries.{NoEntry, SecondEntry, EntryMakesNoNode, TooManyRules}
use Rattle.lw_faults.specs.Finding.{Finds, IsFaultOf}
use Rattle.lw_faults.proofs.Joining.{Finds-iff, Finds-then}
use Rattle.lw_gramcheck.specs.Plain as is
use Rattle.lw_gramcheck.specs.Plain.{IsPlainFault}

module _ (g : Grammar) where
  -- those of the entry rule
  abbrev pub IsEntryFault : GrammarFault → Type 0
  IsEntryFault f = (IsFaultOf 1 (NoEntry g) f ⊎ IsFaultOf 2 (SecondEntry g) f) ⊎ IsFaultOf 3 (EntryMakesNoNode g) f

  -- those of calls
  abbrev pub IsCallFault : GrammarFault → Type 0
  IsCallFault f = IsFaultOf 21 (BadCall g) f ⊎ IsFaultOf 22 (BadAssignment g) f

  abbrev InTurn : GrammarFault → Type 0
  InTurn f = ((IsEntryFault f ⊎ IsFaultOf 13 (MixedDataTypeRule g) f) ⊎ IsCallFault f) ⊎ IsFaultOf 23 (TooManyRules g) f

  of_turn : (f : GrammarFault) → InTurn f → IsPlainFault g f
  of_turn f (inl (inl (inl (inl (inl so))))) = is.no_entry so
  of_turn f (inl (inl (inl (inl (inr so))))) = is.second_entry so
  of_turn f (inl (inl (inl (inr so)))) = is.entry_makes_no_node so
  of_turn f (inl (inl (inr so))) = is.mixed_data_type_rule so
  of_turn f (inl (inr (inl so))) = is.bad_call so
  of_turn f (inl (inr (inr so))) = is.bad_assignment so
  of_turn f (inr so) = is.too_many_rules so

  in_turn : (f : GrammarFault) → IsPlainFault g f → InTurn f
  in_turn f (is.no_entry so) = inl (inl (inl (inl (inl so))))
  in_turn f (is.second_entry so) = inl (inl (inl (inl (inr so))))
  in_turn f (is.entry_makes_no_node so) = inl (inl (inl (inr so)))
  in_turn f (is.mixed_data_type_rule so) = inl (inl (inr so))
  in_turn f (is.bad_call so) = inl (inr (inl so))
  in_turn f (is.bad_assignment so) = inl (inr (inr so))
  in_turn f (is.too_many_rules so) = inr so

  pub found_plain : {a b c d e : List GrammarFault} → Finds IsEntryFault a b → Finds (IsFaultOf 13 (MixedDataTypeRule g)) b c → Finds IsCallFault c d →
      Finds (IsFaultOf 23 (TooManyRules g)) d e → Finds (IsPlainFault g) a e
  found_plain entries mixed calls sizes = Finds-iff (λ f. (of_turn f, in_turn f)) (Finds-then (Finds-then (Finds-then entries mixed) calls) sizes)
