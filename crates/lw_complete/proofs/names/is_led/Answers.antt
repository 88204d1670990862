use Rattle.lw_lexer.specs.Recut.{added_behind}
use Rattle.lw_complete.proofs.NamedTried.{led_front, led_nowhere, led_whole}
use Rattle.lw_complete.proofs.NamedWritten.{never}
use Rattle.lw_complete.proofs.names.is_led.Goals as goal

pub judge-requires : goal.judge-requires
judge-requires c = record { known = c.requires.known }

pub returns-in-LeadsNowhere-clause-led : goal.returns-in-LeadsNowhere-clause-led
returns-in-LeadsNowhere-clause-led c of lexicon tasks trees address cut by =
    never
    (led_nowhere of tasks c.args.typing.now trees address c.args.known.now (added_behind c.args.written.now.recut.now) c.args.written.now.name.now
    c.in_ok-judge.field-0 (c.in_ok-judge.ensures.judged of lexicon tasks trees address cut by) c.in-LeadsNowhere.is)

pub returns-in-Leads-clause-led : goal.returns-in-Leads-clause-led
returns-in-Leads-clause-led c of lexicon tasks trees address cut by =
    led_whole of tasks c.args.typing.now trees address c.args.known.now (added_behind c.args.written.now.recut.now) c.args.written.now.name.now
    c.in_ok-judge.field-0 (c.in_ok-judge.ensures.judged of lexicon tasks trees address cut by) c.in-Leads.is c.is_read.result
    (c.is_read.ensures of lexicon tasks (record { written = cut.written; parsed = cut.read.parsed }) by.tried.next)

pub returns-in-NoReference-clause-led : goal.returns-in-NoReference-clause-led
returns-in-NoReference-clause-led c of lexicon tasks trees address cut by =
    led_front of tasks c.args.typing.now trees address c.args.known.now (added_behind c.args.written.now.recut.now) c.args.written.now.name.now
    c.in_ok-judge.field-0 (c.in_ok-judge.ensures.judged of lexicon tasks trees address cut by) c.in-NoReference.is c.is_read-in-NoReference.result
    (c.is_read-in-NoReference.ensures of lexicon tasks (record { written = cut.written; parsed = cut.read.parsed }) by.tried.next)
