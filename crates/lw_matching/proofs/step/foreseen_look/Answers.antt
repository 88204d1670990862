use Rattle.std.proofs.Common.{◌∙◌, sym, ◌++◌}
use Rattle.lw_matching.proofs.TextLemmas.{holds-append}
use Rattle.lw_matching.proofs.StepLemmas.{holds_Start}
use Rattle.lw_matching.proofs.step.foreseen_look.Goals as goal

pub returns-in-Start : goal.returns-in-Start
returns-in-Start c more = holds_Start c.args.look (c.args.text.now ++ more) c.args.at c.in-Start.is c.if-at-eq0.true

pub returns-in-Some : goal.returns-in-Some
returns-in-Some c more =
    holds-append c.args.text.now more c.args.look c.args.at c.in-Some.field-0 (sym c.char_at.ensures ∙ c.in-Some.is) ∙ sym c.holds.ensures
