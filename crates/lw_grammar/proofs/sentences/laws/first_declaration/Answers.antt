-- The places decide.
use Rattle.std.proofs.Common.{codes, lit<}
use Rattle.lw_grammar.proofs.TwiceWorked.{interface_meant, no_union_meant, infers_none, a_not_below_t, union_meant, no_interface_meant, a_below_t, declared, returns_t}
use Rattle.lw_grammar.proofs.sentences.laws.first_declaration.Goals as goal

pub returns : goal.returns
returns c = record {
  interface = interface_meant 35 45 (lit< tt);
  no_union = no_union_meant 35 45 (lit< tt);
  not_below = a_not_below_t 35 45 (lit< tt);
  union = union_meant 47 15 (lit< tt);
  no_interface = no_interface_meant 47 15 (lit< tt);
  below = a_below_t 47 15 (lit< tt);
  declared = declared 35 45 (lit< tt);
  returned = returns_t 35 45;
  not_inferred = infers_none 35 45 (lit< tt) (codes "T");
}
