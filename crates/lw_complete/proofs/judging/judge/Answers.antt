use Rattle.std.proofs.Common.{◌∙◌, ◌+◌, ◌≤◌, ◌++◌, ℕ, List, Ok, length, sym, ap, subst, length-append, arith}
use Rattle.lw_base.specs.declared.limits.TheConstants.{LONGEST_DOCUMENT}
use Rattle.lw_lexer.specs.Recut.{IsCrossed, added_behind}
use Rattle.lw_base.proofs.Bytes.{utf8_small}
use Rattle.lw_tokens.specs.Cut.{IsCutTo}
use Rattle.lw_tokens.specs.Lexicon.{Lexicon}
use Rattle.lw_complete.proofs.JudgedBlank.{crossed, too_long}
use Rattle.lw_complete.proofs.judging.judge.Goals as goal

pub seam-requires : goal.seam-requires
seam-requires c =
    let (of, lexicon, tasks, here, recut, next) = c.requires.known in (c.args.written.now.name.now, recut)

pub judge_apart-requires : goal.judge_apart-requires
judge_apart-requires c =
    let (of, lexicon, tasks, here, recut, next) = c.requires.known in record { known = (of, lexicon, tasks, here, next) }

pub returns-then-length_with-gt-LONGEST_DOCUMENT-clause-judged : goal.returns-then-length_with-gt-LONGEST_DOCUMENT-clause-judged
returns-then-length_with-gt-LONGEST_DOCUMENT-clause-judged c of lexicon tasks trees address cut by =
    too_long c.args.typing.now trees address c.args.written.now.name.now
    (λ short.
    let within = c.length_with.ensures.0
    (subst (λ (name : List ℕ). length c.args.typing.now.front.now + length name + length c.args.typing.now.rest.now ≤ LONGEST_DOCUMENT) (sym c.bytes.ensures.bytes) short) in
    omega (arith, within, c.if-length_with-gt-LONGEST_DOCUMENT.true))

pub returns-in-Crossed-clause-judged : goal.returns-in-Crossed-clause-judged
returns-in-Crossed-clause-judged c of lexicon tasks trees address cut by =
    let typing = c.args.typing.now in
    let name = c.args.written.now.name.now in
    let cuts = cut.read.cuts in
    let is : IsCrossed c.args.recutter.now.lexicon (typing.front.now ++ name ++ typing.rest.now) (length (typing.front.now ++ name)) =
    subst (λ (rest : List ℕ). IsCrossed c.args.recutter.now.lexicon (typing.front.now ++ name ++ rest) (length (typing.front.now ++ name))) c.text.ensures.text
    (c.seam.ensures.crossed typing.front.now name typing.tokens.now (c.in_ok-seam.was ∙ ap Ok c.in-Crossed.is) cuts.end (utf8_small name c.bytes.ensures.utf8) cut.recut) in
    crossed of lexicon typing cut.read.typed by.one_way trees address name
    (subst (λ (l : Lexicon). IsCrossed l (typing.front.now ++ name ++ typing.rest.now) (length (typing.front.now ++ name))) cuts.lexicon_is is)

pub returns-in-Meets-clause-judged : goal.returns-in-Meets-clause-judged
returns-in-Meets-clause-judged c of lexicon tasks trees address cut by =
    let typing = c.args.typing.now in
    let name = c.args.written.now.name.now in
    let own = c.args.recutter.now.lexicon in
    let cuts = cut.read.cuts in
    let tokens = typing.tokens.now ++ added_behind c.args.written.now.recut.now in
    let is : IsCutTo own (typing.front.now ++ name ++ typing.rest.now) (length (typing.front.now ++ name)) tokens =
    subst (λ (rest : List ℕ). IsCutTo own (typing.front.now ++ name ++ rest) (length (typing.front.now ++ name)) tokens) c.text.ensures.text
    (c.seam.ensures.meets typing.front.now name typing.tokens.now (c.in_ok-seam.was ∙ ap Ok c.in-Meets.is) cuts.end (utf8_small name c.bytes.ensures.utf8) cut.recut) in
    let within : c.length_with.result ≤ LONGEST_DOCUMENT = c.if-length_with-gt-LONGEST_DOCUMENT.false in
    let short : length typing.front.now + length name + length typing.rest.now ≤ LONGEST_DOCUMENT =
    subst (λ (bytes : List ℕ). length typing.front.now + length bytes + length typing.rest.now ≤ LONGEST_DOCUMENT) c.bytes.ensures.bytes (c.length_with.ensures.1 within) in
    c.judge_apart.ensures of lexicon tasks trees address
    (record {
      typed = cut.read.typed;
      here = record { written = cut.written; parsed = cut.read.parsed };
      meets = record {
        cut = subst (λ (l : Lexicon). IsCutTo l (typing.front.now ++ name ++ typing.rest.now) (length (typing.front.now ++ name)) tokens) cuts.lexicon_is is;
        short = omega (arith, short, length-append (typing.front.now ++ name) typing.rest.now, length-append typing.front.now name);
      };
    }) by

pub returns-in-Unknown-clause-judged : goal.returns-in-Unknown-clause-judged
returns-in-Unknown-clause-judged c of lexicon tasks trees address cut by = c.leads_in_whole.ensures trees address by.one_way by.among
