use Rattle.lw_substitution.proofs.PutThere.{put_there}
use Rattle.lw_substitution.proofs.laws.each_reference_stands_where_marks_put_it.Goals as goal

pub returns : goal.returns
returns c = λ g text m ts tokens tree place r is at. put_there g text m ts tokens tree place r is at
