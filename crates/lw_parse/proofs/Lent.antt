-- A program that is lent, and what is told of its places.
use Rattle.std.proofs.Common.{◌≡◌, List, subst, sym}
use Rattle.lw_viable.specs.Told.{BeginsParts}
use Rattle.lw_grammar.specs.declared.grammar.Grammar.{Grammar}
use Rattle.lw_grammar.specs.Kinds.{Kinds}
use Rattle.lw_program.specs.ProgramOf.{ProgramParts}
use Rattle.lw_program.specs.Says.{Task}
use Rattle.lw_viable.specs.Fronts.{IsProgramWith}

pub lent : {g : Grammar} {of : Kinds} {tasks : List Task} {own program : ProgramParts} {owned begins : BeginsParts} → own ≡ program → owned ≡ begins →
    IsProgramWith g of tasks program begins → IsProgramWith g of tasks own owned
lent {g} {of} {tasks} {own} {program} {owned} {begins} same also is =
    subst (λ (b : BeginsParts). IsProgramWith g of tasks own b) (sym also) (subst (λ (p : ProgramParts). IsProgramWith g of tasks p begins) (sym same) is)
