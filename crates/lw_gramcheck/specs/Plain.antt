-- The faults that need no look at what rules read, besides circular calls.
use Rattle.lw_grammar.specs.declared.fault.GrammarFault.{GrammarFault}
use Rattle.lw_grammar.specs.declared.grammar.Grammar.{Grammar}
use Rattle.lw_faults.specs.BadCalls.{BadCall, BadAssignment}
use Rattle.lw_faults.specs.DataTypes.{MixedDataTypeRule}
use Rattle.lw_faults.specs.Entries.{NoEntry, SecondEntry, EntryMakesNoNode, TooManyRules}
use Rattle.lw_faults.specs.Finding.{IsFaultOf}

pub data IsPlainFault (g : Grammar) (f : GrammarFault) : Type 0 where
  no_entry : IsFaultOf 1 (NoEntry g) f → IsPlainFault g f
  second_entry : IsFaultOf 2 (SecondEntry g) f → IsPlainFault g f
  entry_makes_no_node : IsFaultOf 3 (EntryMakesNoNode g) f → IsPlainFault g f
  mixed_data_type_rule : IsFaultOf 13 (MixedDataTypeRule g) f → IsPlainFault g f
  bad_call : IsFaultOf 21 (BadCall g) f → IsPlainFault g f
  bad_assignment : IsFaultOf 22 (BadAssignment g) f → IsPlainFault g f
  too_many_rules : IsFaultOf 23 (TooManyRules g) f → IsPlainFault g f
