use Rattle.std.proofs.Common.{◌∙◌, ◌↔◌, IsTrue, true≢false, sym}
use Rattle.std.proofs.lemmas.Result.{IfOk-weaker}
use Rattle.lw_places.specs.Starting.{ReferenceNext}
use Rattle.lw_lexer.specs.Recut.{added_behind}
use Rattle.lw_complete.specs.Starts.{ComesAt, IsReadAt, IsReadAsStart}
use Rattle.lw_complete.proofs.NamedTried.{not_led, read_at}
use Rattle.lw_complete.proofs.NamedWritten.{never}
use Rattle.lw_complete.proofs.written.is_read_at.Goals as goal

pub is_read_as-requires : goal.is_read_as-requires
is_read_as-requires c = record { known = c.requires.known }

pub returns-then-not-may_lead : goal.returns-then-not-may_lead
returns-then-not-may_lead c of lexicon tasks here next =
    never (not_led of tasks c.args.typing.now c.args.leads (added_behind c.args.written.now.recut.now) c.args.written.now.name.now c.args.one.now
    (λ has. true≢false (sym (c.may_lead.ensures.1 has) ∙ c.if-not-may_lead.true)))

pub returns : goal.returns
returns c of lexicon tasks here is =
    let one = c.args.one.now in
    let added = added_behind c.args.written.now.recut.now in
    let name = c.args.written.now.name.now in
    IfOk-weaker c.is_read_as.result
    (λ r. (next : ReferenceNext) → ComesAt of c.args.typing.now next one.start.now → IsTrue r ↔ IsReadAsStart of tasks c.args.typing.now next one.start.now added name)
    (λ r. IsTrue r ↔ IsReadAt of tasks c.args.typing.now c.args.leads added name one)
    (λ r told.
    read_at of tasks c.args.typing.now c.args.leads added name one r (c.may_lead.ensures.0 c.if-not-may_lead.false) (is.next, is.sound.at)
    told) (c.is_read_as.ensures of lexicon tasks here is)
