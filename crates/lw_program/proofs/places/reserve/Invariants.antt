use Rattle.std.proofs.Common.{◌≡◌, ◌++◌, replicate}
use Rattle.lw_program.specs.declared.instr.Instr.TheVariants.{End}
use Rattle.lw_program.proofs.places.reserve.Given as goal

abbrev pub invariant-loop : goal.invariant-loop
invariant-loop l = l.code.items ≡ l.fn.code.items ++ replicate l.counter End
