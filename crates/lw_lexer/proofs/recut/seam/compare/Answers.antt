use Rattle.std.proofs.Common.{ap}
use Rattle.std.specs.Option.{option_map}
use Rattle.lw_lexer.specs.Place.{next_of}
use Rattle.lw_lexer.proofs.recut.seam.compare.Goals as goal

pub returns-in-Some : goal.returns-in-Some
returns-in-Some c = (next_of c.in-Some.next, ap (option_map next_of) c.in-Some.is, c.is_there.ensures.0 c.if-is_there.true)
