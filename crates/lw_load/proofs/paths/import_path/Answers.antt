use Rattle.std.proofs.Common.{◌≡◌, ◌∙◌, ap, ap₂, subst, IfOk}
use Rattle.lw_load.specs.Paths.{walked, import_path}
use Rattle.lw_load.proofs.PathEnds.{import_path-parts}
use Rattle.lw_load.proofs.paths.import_path.Goals as goal

pub returns : goal.returns
returns c =
    let whole = ap walked (c.from_string.ensures ∙ c.in_ok-whole.ensures.ok) in
    let parts = import_path-parts c.text.result.now c.text-path.result.now _ _ c.start_of-start.ensures c.missing_extension-extension.ensures in
    let texts = ap₂ import_path c.text.ensures.text c.text-path.ensures.text in
    subst (λ t. IfOk c.walked-2.result (λ name. name ≡ t)) (whole ∙ parts ∙ texts) c.walked-2.ensures
