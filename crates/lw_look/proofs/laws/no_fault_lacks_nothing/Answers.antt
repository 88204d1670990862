-- What is not known would be a fault.
use Rattle.lw_look.proofs.Known.{calls_known, lacks_nothing}
use Rattle.lw_look.proofs.laws.no_fault_lacks_nothing.Goals as goal

pub returns : goal.returns
returns c = record {
  calls = λ g r rule name types checks from does. calls_known g types checks r rule name from does;
  lacks_nothing = λ g types checks told choices. lacks_nothing g types checks told choices;
}
