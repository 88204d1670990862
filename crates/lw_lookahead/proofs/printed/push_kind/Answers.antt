use Rattle.std.proofs.Common.{◌≡◌, ◌+◌, ◌-◌, [], ◌++◌, Some, length, get_or, slice_get, refl, sym, ap, ◌∙◌, append-nil, arith}
use Rattle.std.proofs.lemmas.Result.{on_ok_weaker}
use Rattle.std.proofs.lemmas.Option.{slice_get_read}
use Rattle.std.specs.Prelude.{string_bytes}
use Rattle.lw_grammar.specs.KindTexts.{texts_of}
use Rattle.lw_lookahead.proofs.KindNames.{keyword_text, length-keywords, length-terminals, no_text, terminal_text}
use Rattle.lw_lookahead.proofs.printed.push_kind.Goals as goal

pub returns-then-number-keywords : goal.returns-then-number-keywords
returns-then-number-keywords c kinds of =
    let g = c.args.lexicon.now.g.now in
    let old = string_bytes c.args.text.now in
    let text = keyword_text kinds c.from-number.result c.keyword_at.result.now (c.keyword_at.ensures.kind g kinds c.requires.kinds of) in
    on_ok_weaker c.push_quoted.result
    (λ pushed. pushed ∙ ap (λ text. old ++ text) (sym text ∙ ap (λ k. get_or (texts_of kinds) k []) c.from-number.ensures)) c.push_quoted.ensures

pub returns-in_ok-push_str : goal.returns-in_ok-push_str
returns-in_ok-push_str c kinds of =
    let g = c.args.lexicon.now.g.now in
    let row = c.args.lexicon.now.kinds.now in
    let old = string_bytes c.args.text.now in
    let terminal = c.index-as_slice-terminal_at.result in
    let place = c.from-number.result - c.keyword_count-keywords.result in
    let read = c.index-as_slice-terminal_at.is ∙ ap (λ xs. get_or xs c.terminal_at.result terminal) c.as_slice.ensures in
    let there : slice_get kinds.terminals place ≡ Some terminal =
    sym (c.terminal_at.ensures.terminal g kinds c.requires.kinds of)
    ∙ slice_get_read g.terminals (length g.terminals) c.terminal_at.result terminal refl (c.terminal_at.ensures.within g c.requires.kinds) read in
    let behind : c.args.kind.0 ≡ length kinds.keywords + place = omega (arith, length-keywords g row c.requires.kinds kinds of, c.from-number.ensures) in
    c.in_ok-push_str.ensures.bytes ∙ ap (λ text. old ++ text) (c.text.ensures.text ∙ sym (terminal_text kinds c.args.kind.0 place terminal behind there))

pub returns-else-place-terminal_count : goal.returns-else-place-terminal_count
returns-else-place-terminal_count c kinds of =
    let g = c.args.lexicon.now.g.now in
    let row = c.args.lexicon.now.kinds.now in
    let old = string_bytes c.args.text.now in
    sym (append-nil old)
    ∙ ap (λ text. old ++ text)
    (sym (no_text kinds c.args.kind.0 (omega (arith, length-keywords g row c.requires.kinds kinds of, length-terminals g row c.requires.kinds kinds of, c.from-number.ensures))))
