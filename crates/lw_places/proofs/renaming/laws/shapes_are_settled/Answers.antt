-- Of two nodes that differ first, neither is before the other.
use Rattle.lw_places.proofs.SameShapes.{not_unlike, one_unlike}
use Rattle.lw_places.proofs.Written.{itself, turned_shape}
use Rattle.lw_places.proofs.renaming.laws.shapes_are_settled.Goals as goal

pub returns : goal.returns
returns c = record { itself = itself; turned = turned_shape; once = one_unlike; never = not_unlike }
