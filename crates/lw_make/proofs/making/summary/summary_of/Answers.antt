use Rattle.std.proofs.Common.{◌≡◌, ap, sym, subst, ◌∙◌}
use Rattle.lw_build.specs.View.{documents}
use Rattle.lw_query.specs.declared.view.View.{View}
use Rattle.lw_make.specs.Counting.{of_none, with_all, with_one}
use Rattle.lw_make.specs.Summaries.{IsSummary}
use Rattle.lw_make.proofs.Counting.{all_summed, last_count, one_summed, summary_here}
use Rattle.lw_make.proofs.making.summary.summary_of.Goals as goal

pub views-preserved : goal.views-preserved
views-preserved c =
    let kept = c.args.workspace.now.kept in
    let v = c.view-item.result in
    one_summed kept c.views.summary c.in_ok-summary.summary _ c.deref-view-items.result.now c.views.view-index v c.views-test.true
    (c.in_ok-summary.ensures ∙ ap (with_one c.views.summary v) c.diagnostics_of.ensures
    ∙ ap (λ (x : View). with_one c.views.summary x (last_count kept x)) c.view-item.is)
    c.views.invariant

pub returns : goal.returns
returns c =
    λ lists how.
    let v = c.args.workspace.now in
    let views = c.in_ok-views.views.items in
    let all : c.views.summary ≡ with_all v.kept (of_none c.args.published) views =
    all_summed v.kept c.views.summary _ c.deref-view-items.result.now c.views.view-index c.views-test.false c.views.invariant
    ∙ ap (with_all v.kept (of_none c.args.published)) c.deref-view-items.ensures.value in
    subst (IsSummary v.setting (documents v) lists) (sym all)
    (summary_here v c.requires views c.in_ok-views.ensures.built c.in_ok-views.ensures.texts c.in_ok-views.ensures.addresses c.args.published lists how)
