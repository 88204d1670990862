use Rattle.std.proofs.Common.{sym, subst}
use Rattle.lw_matchers.specs.Starting.{AreStarting}
use Rattle.lw_matchers.proofs.StartingLemmas.{within-starting}
use Rattle.lw_matchers.proofs.token_set.TokenSet.keywords_starting.Goals as goal

pub returns-clause-starting : goal.returns-clause-starting
returns-clause-starting c =
    let places = c.index.result.now in
    let keywords = c.self.inside.keywords.items in
    rw (c.as_slice.ensures, ← c.self.view_is)
    (subst (AreStarting keywords c.args.byte) (sym c.index.ensures) (c.self.invariant.1.places c.args.byte places c.ranges.byte.fits))

pub returns-clause-within : goal.returns-clause-within
returns-clause-within c =
    let places = c.index.result.now in
    let keywords = c.self.inside.keywords.items in
    rw (c.as_slice.ensures, ← c.self.view_is)
    (within-starting keywords c.args.byte places
    (subst (AreStarting keywords c.args.byte) (sym c.index.ensures) (c.self.invariant.1.places c.args.byte places c.ranges.byte.fits)))
