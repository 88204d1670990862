-- Both ways would show the window of what is left.
use Rattle.lw_look.proofs.OneWay.{one_way}
use Rattle.lw_look.proofs.laws.one_way_goes_on.Goals as goal

pub returns : goal.returns
returns c = λ g kinds k x s v w xs ys rest m n apart behind first p second q same. one_way g kinds k apart behind first p second q same
