use Rattle.lw_load.proofs.PathSegments.{back_pop}
use Rattle.lw_load.proofs.paths.go_back.Goals as goal

pub returns-in-Some : goal.returns-in-Some
returns-in-Some c =
    back_pop c.args.absolute _ _ _ _ c.in-Some.field-0.now c.deref.ensures.value c.deref.ensures.len c.in-Some.ensures.value c.in-Some.not-text c.pop.ensures.rest
