use Rattle.std.proofs.Common.{◌∙◌, ◌<◌, ◌≤◌, length, sym, subst, true≢false, arith}
use Rattle.std.proofs.lemmas.List.Elements.{All-contains}
use Rattle.lw_parse.specs.Parsers.{AreOfKinds}
use Rattle.lw_complete.specs.Starts.{IsBlankKnown}
use Rattle.lw_complete.specs.Typing.{grammar_of}
use Rattle.lw_complete.proofs.JudgedBlank.{MayRead, none_blank, none_given, none_told, not_taken, some_bytes, told_given}
use Rattle.lw_complete.proofs.KnownNext.{next_at}
use Rattle.lw_complete.proofs.NoneSoFar.{none_all, none_first, none_more}
use Rattle.lw_complete.proofs.WrittenThere.{name_within}
use Rattle.lw_complete.proofs.judging.by_blank.Goals as goal
use Rattle.lw_complete.proofs.judging.by_blank.Goals.{in-Some+in_ok-gives+else-branch, in_default}

pub takes_all-requires-clause-tail : goal.takes_all-requires-clause-tail
takes_all-requires-clause-tail c = let (of, lexicon, tasks, here, all) = c.requires.known in here.written.tail

pub takes_all-requires-clause-ends : goal.takes_all-requires-clause-ends
takes_all-requires-clause-ends c =
    let (of, lexicon, tasks, here, all) = c.requires.known in
    name_within of lexicon c.args.typing.now c.args.written.now here.written

pub added-added-requires : goal.added-added-requires
added-added-requires c = let (of, lexicon, tasks, here, all) = c.requires.known in here.written.tail

pub gives-requires : goal.gives-requires
gives-requires c =
    let (of, lexicon, tasks, here, all) = c.requires.known in
    let known = c.args.known.now in
    let inside : c.known.one-index < length known = omega arith in
    let next = next_at of tasks c.args.typing.now known c.known.one-index c.one-item.result inside c.one-item.is all in
    record { known = (grammar_of c.args.typing.now, of, tasks, here.parsed.program, next.value, subst (AreOfKinds of) (sym c.added-added.ensures) here.written.of_kinds) }

pub told_by-requires : goal.told_by-requires
told_by-requires c =
    let (of, lexicon, tasks, here, all) = c.requires.known in
    let known = c.args.known.now in
    let inside : c.known.one-index < length known = omega arith in
    record { known = (of, lexicon, tasks, here, next_at of tasks c.args.typing.now known c.known.one-index c.one-item.result inside c.one-item.is all) }

pub returns-then-not-branch : goal.returns-then-not-branch
returns-then-not-branch c of lexicon tasks trees address goes tried one_way =
    not_taken of lexicon c.args.typing.now goes.typed one_way c.args.written.now goes.here.written goes.meets tasks trees address
    (some_bytes c.args.written.now.name.now c.bytes.result.now c.is_empty.result c.bytes.ensures.bytes c.is_empty.ensures c.if-is_empty.false)
    (λ takes. true≢false (sym ((c.in_ok-takes_all.ensures of lexicon c.args.typing.now goes.here.written).1 takes) ∙ c.if-not-branch.true))

pub known-init : goal.known-init
known-init c of lexicon tasks here all = none_first (MayRead of tasks c.args.typing.now c.args.written.now) c.args.known.now

pub known-preserved : goal.known-preserved
known-preserved c of lexicon tasks here all =
    let typing = c.args.typing.now in
    let known = c.args.known.now in
    let i = c.known.one-index in
    let one = c.one-item.result in
    let inside : i < length known = omega arith in
    let next = next_at of tasks typing known i one inside c.one-item.is all in
    let before = c.known.invariant of lexicon tasks here all in
    elim c.match-one.branch [
      | in-Some+in_ok-gives+else-branch w ↦
          let told =
          told_given of tasks typing c.args.written.now lexicon c.args.parser.now here one.start.now next c.added-added.result.now c.added-added.ensures w.in_ok-gives.field-0
          w.in_ok-gives.ensures in
          none_more (MayRead of tasks typing c.args.written.now) known i one inside c.one-item.is
          (none_given of tasks typing c.args.written.now one (λ gives. true≢false (sym (told.1 gives) ∙ w.if-branch.false))) before
      | in_default w ↦
          none_more (MayRead of tasks typing c.args.written.now) known i one inside c.one-item.is (none_blank of tasks typing c.args.written.now one w.in_default.is) before
    ]

pub returns-then-branch : goal.returns-then-branch
returns-then-branch c of lexicon tasks trees address goes tried one_way =
    let typing = c.args.typing.now in
    let known = c.args.known.now in
    let i = c.known.one-index in
    let one = c.one-item.result in
    let inside : i < length known = omega arith in
    let next = next_at of tasks typing known i one inside c.one-item.is tried.next in
    let told =
    told_given of tasks typing c.args.written.now lexicon c.args.parser.now goes.here one.start.now next c.added-added.result.now c.added-added.ensures c.in_ok-gives.field-0
    c.in_ok-gives.ensures in
    c.told_by.ensures of lexicon tasks trees address goes one_way next
    (All-contains (IsBlankKnown of lexicon tasks typing trees address) known one tried.blank (i, inside, sym c.one-item.is)) c.in-Some.is
    ((c.in_ok-takes_all.ensures of lexicon typing goes.here.written).0 c.if-not-branch.false) (told.0 c.if-branch.true)

pub returns : goal.returns
returns c of lexicon tasks trees address goes tried one_way =
    let typing = c.args.typing.now in
    let known = c.args.known.now in
    let past : length known ≤ c.known.one-index = omega arith in
    none_told of lexicon typing goes.typed one_way c.args.written.now goes.here.written goes.meets tasks trees address known tried
    (some_bytes c.args.written.now.name.now c.bytes.result.now c.is_empty.result c.bytes.ensures.bytes c.is_empty.ensures c.if-is_empty.false)
    (none_all (MayRead of tasks typing c.args.written.now) known c.known.one-index past (c.known.invariant of lexicon tasks goes.here tried.next))
