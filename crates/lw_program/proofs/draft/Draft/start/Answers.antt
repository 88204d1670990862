use Rattle.std.proofs.Common.{refl}
use Rattle.lw_program.proofs.Starting.{starts}
use Rattle.lw_program.proofs.draft.Draft.start.Goals as goal

pub returns : goal.returns
returns c kinds s are =
    starts c.args.lexicon.g.now kinds s c.args.body.now c.args.shuts c.in_ok-start.ensures.0 c.in_ok-start.ensures.1 refl (c.in_ok-element.ensures kinds s are)
