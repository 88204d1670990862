-- What the parts of a fault tell that are kept in the order in which they are compared.
use Rattle.lw_grammar.specs.declared.fault.GrammarFault.{GrammarFault}
use Rattle.lw_faults.specs.Faults.{fault}
use Rattle.lw_faults.specs.declared.findings.told.Told.{Told}

abbrev pub told_fault : Told → GrammarFault
told_fault told = fault told.number told.file (record { start = told.start; end = told.end }) told.name
