use Rattle.std.proofs.Common.{◌≡◌, ◌<◌, List, length, slice_get, Some, refl, sym, subst, ap, ◌∙◌, arith}
use Rattle.std.proofs.lemmas.Option.{slice_get_read}
use Rattle.lw_tokens.specs.Lexicon.{TerminalForm}
use Rattle.lw_tokens.proofs.OneCut.{next_has_bytes}
use Rattle.lw_lexer.specs.Known.{AreKnownAt}
use Rattle.lw_lexer.specs.Place.{next_of}
use Rattle.lw_lexer.proofs.TerminalLemmas.{terminal_is_next, keyword_is_next, has_bytes}
use Rattle.lw_lexer.proofs.next.next_token.Goals as goal

pub first_terminal-requires : goal.first_terminal-requires
first_terminal-requires c = record {
  known = subst (λ (forms : List TerminalForm). AreKnownAt forms c.args.text.now c.args.at c.args.known.now.items) (sym c.requires.matchers) c.requires.known;
}

pub returns-in-Some-clause-some : goal.returns-in-Some-clause-some
returns-in-Some-clause-some c =
    next_has_bytes c.args.set.now.lexicon c.requires.kinds.keywords c.args.text.now (Some (next_of c.in-Some.next))
    (c.in-Some.ensures.next c.args.set.now.lexicon c.requires.fronts)

pub returns-in-Some-first_terminal-clause-next : goal.returns-in-Some-first_terminal-clause-next
returns-in-Some-first_terminal-clause-next c =
    let lexicon = c.args.set.now.lexicon in
    let held = c.first_terminal.ensures.same ∙ c.requires.matchers in
    let items = c.first_terminal.new.matchers.items in
    let inside : c.in-Some-first_terminal.i < length items = omega (arith, c.in-Some-first_terminal.ensures.inside, ap length c.first_terminal.ensures.same) in
    let there : slice_get lexicon.terminals c.in-Some-first_terminal.i ≡ Some c.index.result.now =
    subst (λ (forms : List TerminalForm). slice_get forms c.in-Some-first_terminal.i ≡ Some c.index.result.now) held
    (slice_get_read items (length items) c.in-Some-first_terminal.i c.index.result.now refl inside c.index.ensures) in
    rw (c.keywords.ensures.keywords, c.is_hidden.ensures)
    (terminal_is_next lexicon c.args.text.now c.longest_keyword-keyword.result c.in-Some-first_terminal.i c.in-Some-first_terminal.bytes c.index.result.now
    c.longest_keyword-keyword.ensures.longest (rw (c.requires.matchers, c.length_or_zero.ensures) at c.in-Some-first_terminal.ensures.first) there)

pub returns-in-None-clause-next : goal.returns-in-None-clause-next
returns-in-None-clause-next c =
    rw c.keyword_next.ensures
    (keyword_is_next c.args.set.now.lexicon c.args.text.now c.longest_keyword-keyword.result c.longest_keyword-keyword.ensures.longest
    (rw (c.requires.matchers, c.length_or_zero.ensures) at c.in-None.ensures.first))

pub returns-in-None-clause-some : goal.returns-in-None-clause-some
returns-in-None-clause-some c =
    has_bytes c.keyword_next.result c.longest_keyword-keyword.result c.keyword_next.ensures c.longest_keyword-keyword.ensures.filled
