use Rattle.std.proofs.Common.{◌∙◌, sym, true≢false}
use Rattle.lw_complete.proofs.JudgedBlank.{leads_not_so, leads_so}
use Rattle.lw_complete.proofs.NamedWritten.{reference_put, said}
use Rattle.lw_complete.proofs.judging.told_by.Goals as goal

pub says-requires : goal.says-requires
says-requires c =
    let (of, lexicon, tasks, here, is) = c.requires.known in record {
      tail = here.written.tail;
      parts = here.written.parts;
      recipe = reference_put c.args.typing.now of tasks c.args.parser.now here.parsed c.args.one.now.start.now is.next is.sound.at;
    }

pub returns-then-has : goal.returns-then-has
returns-then-has c of lexicon tasks trees address goes one_way next known blank takes gives =
    let typing = c.args.typing.now in
    let written = c.args.written.now in
    let one = c.args.one.now in
    let says =
    said typing of tasks c.args.parser.now goes.here.parsed one.start.now next.next next.sound.at lexicon written goes.here.written c.in_ok-says.field-0 c.in_ok-says.ensures in
    leads_so of lexicon typing goes.typed one_way written goes.here.written goes.meets tasks trees address one next gives takes (says.0 c.if-not-branch.false) known
    c.args.names.now blank (c.has.ensures.0 c.if-has.true)

pub returns : goal.returns
returns c of lexicon tasks trees address goes one_way next known blank takes gives =
    let typing = c.args.typing.now in
    let written = c.args.written.now in
    let one = c.args.one.now in
    let says =
    said typing of tasks c.args.parser.now goes.here.parsed one.start.now next.next next.sound.at lexicon written goes.here.written c.in_ok-says.field-0 c.in_ok-says.ensures in
    leads_not_so of lexicon typing goes.typed one_way written goes.here.written goes.meets tasks trees address one next gives takes (says.0 c.if-not-branch.false) known
    c.args.names.now blank (λ has. true≢false (sym (c.has.ensures.1 has) ∙ c.if-has.false))
