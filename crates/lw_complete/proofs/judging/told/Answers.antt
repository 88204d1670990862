use Rattle.std.proofs.Common.{true≢false, sym, ◌∙◌}
use Rattle.lw_complete.proofs.JudgedSteps.{leads_before, leads_here, leads_not, passed}
use Rattle.lw_complete.proofs.judging.told.Goals as goal

pub returns-then-not-stands_at : goal.returns-then-not-stands_at
returns-then-not-stands_at c trees address before among told =
    passed c.args.typing.now trees address c.args.tree.now c.args.start c.args.end before c.args.reference.now c.args.found told
    (λ at. true≢false (sym (c.stands_at.ensures.1 at) ∙ c.if-not-stands_at.true))

pub returns-then-leads : goal.returns-then-leads
returns-then-leads c trees address before among told =
    leads_here c.args.typing.now trees address c.args.tree.now c.args.start c.args.end before c.args.reference.now (c.stands_at.ensures.0 c.if-not-stands_at.false)
    ((c.leads.ensures trees address among).0 c.if-leads.true)

pub returns-in-Leads : goal.returns-in-Leads
returns-in-Leads c trees address before among told =
    leads_before c.args.typing.now trees address c.args.tree.now c.args.start c.args.end before c.args.reference.now c.args.found told c.in-Leads.is

pub returns-in-LeadsNowhere : goal.returns-in-LeadsNowhere
returns-in-LeadsNowhere c trees address before among told =
    leads_not c.args.typing.now trees address c.args.tree.now c.args.start c.args.end before c.args.reference.now c.args.found told
    (c.stands_at.ensures.0 c.if-not-stands_at.false)
    (λ leads. true≢false (sym ((c.leads.ensures trees address among).1 leads) ∙ c.if-leads.false)) c.in-LeadsNowhere.is
