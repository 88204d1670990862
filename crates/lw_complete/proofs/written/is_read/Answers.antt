use Rattle.std.proofs.Common.{◌<◌, ◌≤◌, true≢false, length, refl, sym, ◌∙◌, arith}
use Rattle.lw_lexer.specs.Recut.{added_behind}
use Rattle.lw_complete.specs.Starts.{IsReadAt}
use Rattle.lw_complete.proofs.KnownNext.{next_at}
use Rattle.lw_complete.proofs.NoneSoFar.{none_all, none_first, none_more}
use Rattle.lw_complete.proofs.NamedWritten.{never}
use Rattle.lw_complete.proofs.written.is_read.Goals as goal

pub is_read_at-requires : goal.is_read_at-requires
is_read_at-requires c =
    let (of, lexicon, tasks, here, all) = c.requires.known in
    let known = c.args.known.now in
    let inside : c.known.one-index < length known = omega arith in
    record { known = (of, lexicon, tasks, here, next_at of tasks c.args.typing.now known c.known.one-index c.one-item.result inside c.one-item.is all) }

pub known-init : goal.known-init
known-init c of lexicon tasks here all =
    none_first (IsReadAt of tasks c.args.typing.now c.args.leads (added_behind c.args.written.now.recut.now) c.args.written.now.name.now) c.args.known.now

pub known-preserved : goal.known-preserved
known-preserved c of lexicon tasks here all =
    let known = c.args.known.now in
    let i = c.known.one-index in
    let inside : i < length known = omega arith in
    let next = next_at of tasks c.args.typing.now known i c.one-item.result inside c.one-item.is all in
    none_more (IsReadAt of tasks c.args.typing.now c.args.leads (added_behind c.args.written.now.recut.now) c.args.written.now.name.now) known i c.one-item.result inside c.one-item.is
    (λ is. true≢false (sym ((c.in_ok-is_read_at.ensures of lexicon tasks here next).1 is) ∙ c.if-branch.false))
    (c.known.invariant of lexicon tasks here all)

pub returns-then-branch : goal.returns-then-branch
returns-then-branch c of lexicon tasks here all =
    let known = c.args.known.now in
    let i = c.known.one-index in
    let inside : i < length known = omega arith in
    let next = next_at of tasks c.args.typing.now known i c.one-item.result inside c.one-item.is all in (
      λ _. (c.one-item.result, (i, inside, sym c.one-item.is), (c.in_ok-is_read_at.ensures of lexicon tasks here next).0 c.if-branch.true),
      λ _. refl,
    )

pub returns : goal.returns
returns c of lexicon tasks here all =
    let past : length c.args.known.now ≤ c.known.one-index = omega arith in
    let none =
    none_all (IsReadAt of tasks c.args.typing.now c.args.leads (added_behind c.args.written.now.recut.now) c.args.written.now.name.now) c.args.known.now c.known.one-index
    past (c.known.invariant of lexicon tasks here all) in
    never (λ (one, among, read). none one among read)
