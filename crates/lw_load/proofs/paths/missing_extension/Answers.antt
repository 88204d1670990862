use Rattle.std.proofs.Common.{◌∙◌, [], sym}
use Rattle.std.proofs.lemmas.Bool.{cond-true, cond-false}
use Rattle.std.proofs.lemmas.Str.Pattern.{ends_text}
use Rattle.lw_load.specs.Paths.{extension}
use Rattle.lw_load.proofs.PathEnds.{has_extension-ends}
use Rattle.lw_load.proofs.paths.missing_extension.Goals as goal

pub returns-then-ends_with : goal.returns-then-ends_with
returns-then-ends_with c =
    let ends = ends_text c.ends_with.result extension c.args.path.now c.ends_with.ensures.cases in
    sym (cond-true _ [] extension (has_extension-ends c.args.path.now _ ends ∙ c.if-ends_with.true))

pub returns-else-ends_with : goal.returns-else-ends_with
returns-else-ends_with c =
    let ends = ends_text c.ends_with.result extension c.args.path.now c.ends_with.ensures.cases in
    sym (cond-false _ [] extension (has_extension-ends c.args.path.now _ ends ∙ c.if-ends_with.false))
