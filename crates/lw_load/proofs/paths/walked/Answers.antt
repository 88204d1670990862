use Rattle.std.proofs.Common.{◌∙◌, ◌∷◌, ap, codes, lit<}
use Rattle.std.specs.List.{join_by}
use Rattle.lw_load.specs.Paths.{walked}
use Rattle.lw_load.proofs.PathSegments.{walked_absolute, walked_relative}
use Rattle.lw_load.proofs.paths.walked.Goals as goal

pub returns-then-absolute : goal.returns-then-absolute
returns-then-absolute c =
    let first = c.starts_with-absolute.ensures.byte (lit< tt) (lit< tt) (λ w o h. h) in
    let joined = c.in_ok-text.ensures.ok ∙ ap (join_by (λ s. s.now) (codes "/")) c.deref.ensures.value in
    c.from_string.ensures ∙ c.in_ok-format.ensures.ok ∙ ap (λ t. 47 ∷ t) joined
    ∙ walked_absolute c.text-path.result.now _ _ c.if-absolute.true first c.in_ok-kept.ensures ∙ ap walked c.text-path.ensures.text

pub returns : goal.returns
returns c =
    let first = c.starts_with-absolute.ensures.byte (lit< tt) (lit< tt) (λ w o h. h) in
    let joined = c.in_ok-text.ensures.ok ∙ ap (join_by (λ s. s.now) (codes "/")) c.deref.ensures.value in
    c.from_string-2.ensures ∙ joined
    ∙ walked_relative c.text-path.result.now _ _ c.if-absolute.false first c.in_ok-kept.ensures ∙ ap walked c.text-path.ensures.text
