use Rattle.lw_substitution.proofs.Written.{name_for_blank, name_for_name}
use Rattle.lw_substitution.proofs.laws.a_written_name_differs_in_the_reference.Goals as goal

pub returns : goal.returns
returns c = record {
  name = λ g front name rest tokens others next place makes row is. name_for_blank g next makes front rest tokens others place row is name;
  another = λ g front name other rest tokens others next place makes row is. name_for_name g next makes front rest tokens others place row is name other;
}
