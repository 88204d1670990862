-- The values of both are of one row of shapes, and the second node is a part in the one and an event in the other.
use Rattle.lw_places.proofs.Written.{event_comes_last, longer}
use Rattle.lw_places.proofs.renaming.laws.texts_and_places_make_no_shape.Goals as goal

pub returns : goal.returns
returns c = record { alike = longer; unlike = event_comes_last }
