-- The site leads from the body down to the part.
use Rattle.lw_look.proofs.Standing.{one_stands}
use Rattle.lw_look.proofs.laws.one_part_stands.Goals as goal

pub returns : goal.returns
returns c = λ g s x y at other. one_stands g at other
