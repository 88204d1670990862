use Rattle.std.proofs.Common.{take}
use Rattle.lw_lang.specs.Telling.{AreToldAs}
use Rattle.lw_lang.proofs.told.told.told_faults.Given as goal

abbrev pub invariant-loop-fault : goal.invariant-loop-fault
invariant-loop-fault l = AreToldAs l.g l.texts (take l.fault-index l.faults) l.told
