use Rattle.std.proofs.Common.{refl}
use Rattle.lw_reading.proofs.OneTree.{one_follows, one_close}
use Rattle.lw_reading.proofs.rooted.laws.marks_have_one_tree.Goals as goal

pub returns : goal.returns
returns c = record {
  follows = λ g text m ts bs other is was. one_follows g text is was refl refl;
  closes = λ g text ts bs x y is was. one_close g text is was;
}
