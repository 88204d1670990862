-- What stands before it in its list, or is not behind it in the other, would make it a second one.
use Rattle.lw_grammar.specs.Named.{declared_rule, declared_terminal, declared_interface, declared_union}
use Rattle.lw_faults.specs.Names as names
use Rattle.lw_faults.proofs.DeclaredOnce.{meant_once}
use Rattle.lw_faults.proofs.laws.what_is_declared_once_is_meant.Goals as goal

pub returns : goal.returns
returns c = record {
  rule = λ g r rule at once. meant_once declared_rule declared_terminal g.rules g.terminals r rule at (λ is. once (names.rule_ is));
  terminal = λ g t terminal at once. meant_once declared_terminal declared_rule g.terminals g.rules t terminal at (λ is. once (names.terminal_ is));
  interface = λ g i interface at once. meant_once declared_interface declared_union g.interfaces g.unions i interface at (λ is. once (names.interface_ is));
  union = λ g u union at once. meant_once declared_union declared_interface g.unions g.interfaces u union at (λ is. once (names.union_ is));
}
