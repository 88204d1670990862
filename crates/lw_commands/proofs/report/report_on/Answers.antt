use Rattle.std.proofs.Common.{◌∙◌, ap, arith}
use Rattle.lw_link_rules.specs.Faults.{too_large_shown}
use Rattle.lw_commands.specs.Checked as checked
use Rattle.lw_commands.specs.Checked.{diagnostic_line}
use Rattle.lw_commands.proofs.ReportLemmas.{not_text_is_not_ok, line_is_not_ok, broken_report}
use Rattle.lw_commands.proofs.report.report_on.Goals as goal

pub returns-then-len-gt-LONGEST_DOCUMENT : goal.returns-then-len-gt-LONGEST_DOCUMENT
returns-then-len-gt-LONGEST_DOCUMENT c =
    broken_report _ _ _ _ (checked.too_large (omega (arith, c.requires, c.len.ensures, c.if-len-gt-LONGEST_DOCUMENT.true))) (line_is_not_ok too_large_shown)
    (c.broken.ensures.text ∙ c.in_ok-diagnostic_line.ensures ∙ ap diagnostic_line c.in_ok-shown.ensures) c.broken.ensures.verdict

pub returns-in_ok-from_str-in-None : goal.returns-in_ok-from_str-in-None
returns-in_ok-from_str-in-None c =
    broken_report _ _ _ _ (checked.not_text (omega (arith, c.len.ensures, c.if-len-gt-LONGEST_DOCUMENT.false)) (rw c.in-None.is at c.from_vec.ensures)) not_text_is_not_ok
    (c.broken-in-None.ensures.text ∙ c.in_ok-from_str-in-None.ensures.ok) c.broken-in-None.ensures.verdict
