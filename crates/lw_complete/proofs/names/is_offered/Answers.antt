use Rattle.std.proofs.Common.{◌↔◌, ℕ, List, IsTrue, sym, subst}
use Rattle.std.proofs.lemmas.Result.{IfOk-weaker}
use Rattle.std.proofs.lemmas.Str.Pattern.{starts_text}
use Rattle.lw_lexer.specs.Recut.{IsRecut, RecutterParts, added_behind}
use Rattle.lw_complete.specs.Starts.{IsLedBy, IsOfferedBy}
use Rattle.lw_complete.specs.Tried.{IsTypedWith}
use Rattle.lw_complete.proofs.NamedTried.{offered_by}
use Rattle.lw_complete.proofs.NamedWritten.{begun, begun_not, cut_as_named, never, uncut_as_named, written_there}
use Rattle.lw_complete.proofs.names.is_offered.Goals as goal

pub is_led-requires : goal.is_led-requires
is_led-requires c =
    let typing = c.args.typing.now in
    let name = c.args.name.now in
    let recutter = c.args.recutter.now in
    let (of, lexicon, tasks, read, all) = c.requires.known in
    let told = rw c.in-Some.is at (c.in_ok-recut.ensures.added typing.front.now typing.tokens.now read.cuts.end) in
    let recut : IsRecut recutter name c.in-Some.recut =
    subst (λ (t : List ℕ). IsRecut recutter t c.in-Some.recut) c.text-2.ensures.text (rw c.in-Some.is at c.in_ok-recut.ensures.recut) in
    let cut = cut_as_named lexicon typing recutter read.cuts c.text-2.result.now name c.text-2.ensures.text c.in-Some.recut told in record {
      known = (
        of,
        lexicon,
        tasks,
        record { written = written_there of lexicon typing recutter _ read.typed read.cuts recut cut.0; parsed = read.parsed },
        subst (λ (p : RecutterParts). IsRecut p name c.in-Some.recut) (sym c.cut.ensures.same) recut,
        all,
      );
    }

pub returns-then-not-starts_with-clause-offered : goal.returns-then-not-starts_with-clause-offered
returns-then-not-starts_with-clause-offered c of lexicon tasks trees address read by =
    let word = c.args.typing.now.word.now in
    let lent = c.text.result.now in
    never (λ is.
    begun_not word c.args.name.now lent c.starts_with.result c.text.ensures.text (starts_text c.starts_with.result word lent c.starts_with.ensures.cases)
    c.if-not-starts_with.true is.begins)

pub returns-in_default-clause-offered : goal.returns-in_default-clause-offered
returns-in_default-clause-offered c of lexicon tasks trees address read by =
    let typing = c.args.typing.now in
    let not = rw c.in_default.is at (c.in_ok-recut.ensures.added typing.front.now typing.tokens.now read.cuts.end) in
    never (λ is. uncut_as_named lexicon typing c.args.recutter.now read.cuts c.text-2.result.now c.args.name.now c.text-2.ensures.text not is.added is.cut)

pub returns-clause-offered : goal.returns-clause-offered
returns-clause-offered c of lexicon tasks trees address read by =
    let typing = c.args.typing.now in
    let known = c.args.known.now in
    let name = c.args.name.now in
    let recutter = c.args.recutter.now in
    let word = typing.word.now in
    let lent = c.text.result.now in
    let begins =
    begun word name lent c.starts_with.result c.text.ensures.text (starts_text c.starts_with.result word lent c.starts_with.ensures.cases) c.if-not-starts_with.false in
    let told = rw c.in-Some.is at (c.in_ok-recut.ensures.added typing.front.now typing.tokens.now read.cuts.end) in
    let there = added_behind c.in-Some.recut in
    let recut : IsRecut recutter name c.in-Some.recut =
    subst (λ (t : List ℕ). IsRecut recutter t c.in-Some.recut) c.text-2.ensures.text (rw c.in-Some.is at c.in_ok-recut.ensures.recut) in
    let cut = cut_as_named lexicon typing recutter read.cuts c.text-2.result.now name c.text-2.ensures.text c.in-Some.recut told in
    let kept = sym c.cut.ensures.same in
    IfOk-weaker c.is_led.result (λ r. IsTrue r ↔ IsLedBy of tasks typing trees address known there name)
    (λ r. IsTrue r ↔ IsOfferedBy of lexicon tasks typing trees address known name)
    (λ r led. offered_by of lexicon tasks typing trees address known name begins there cut.0 cut.1 r led)
    (c.is_led.ensures.led of lexicon tasks trees address
    (record {
      read = subst (IsTypedWith of lexicon tasks typing c.args.parser.now) kept read;
      written = written_there of lexicon typing recutter _ read.typed read.cuts recut cut.0;
      recut = subst (λ (p : RecutterParts). IsRecut p name c.in-Some.recut) kept recut;
    }) by)
