use Rattle.std.proofs.Common.{[], take}
use Rattle.lw_faults.specs.Finding.{Finds, OfSome}
use Rattle.lw_types.specs.NameUses.{use_of}
use Rattle.lw_types.specs.Wrong.{InfersName}
use Rattle.lw_types.proofs.naming.names.inferred_names.Given as goal

abbrev pub invariant-loop-mention : goal.invariant-loop-mention
invariant-loop-mention l = Finds (OfSome (λ m. InfersName (use_of m)) (take l.mention-index l.mentions)) [] l.names.keys
