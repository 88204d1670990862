use Rattle.std.proofs.Common.{◌≡◌, ◌<◌, ℕ, List, length, get_or, slice_get, slice_set, Some, refl, sym, subst, ap, ◌∙◌, arith}
use Rattle.std.proofs.lemmas.List.{set-get_or, length-map}
use Rattle.std.proofs.lemmas.Option.{slice_get_read, slice_get_within}
use Rattle.lw_matching.specs.Known.{Tried}
use Rattle.lw_tokens.specs.Lexicon.{TerminalForm}
use Rattle.lw_tokens.specs.Matching.{match_length}
use Rattle.lw_tokens.specs.NextToken.{lengths}
use Rattle.lw_lexer.proofs.TerminalLemmas.{first_over, none_over_next}
use Rattle.lw_lexer.proofs.terminal.first_terminal.Goals as goal

-- the matchers are those that were given, so the one that is borrowed is that of the terminal in its turn
in_turn : (given now : List TerminalForm) (i : ℕ) (form : TerminalForm) → now ≡ given → i < length given → form ≡ get_or now i form →
    slice_get given i ≡ Some form
in_turn given now i form same inside is =
    subst (λ (xs : List TerminalForm). slice_get xs i ≡ Some form) same
    (slice_get_read now (length now) i form refl (omega (arith, inside, ap length same)) is)

pub matches_over-requires : goal.matches_over-requires
matches_over-requires c =
    let l = c.loop-i in
    let there = in_turn c.args.matchers.now.items l.matchers.items l.i c.index_mut.result.now l.invariant.same
    (omega (arith, c.loop-i-test.true, c.len-i-end.ensures)) c.index_mut.ensures.value in
    record {
      known = λ one held. c.requires.known l.i c.index_mut.result.now one there
          (subst (λ (xs : List Tried). slice_get xs l.i ≡ Some one) l.invariant.known held);
    }

pub returns-in-Some-clause-first : goal.returns-in-Some-clause-first
returns-in-Some-clause-first c =
    let l = c.loop-i in
    let there = in_turn c.args.matchers.now.items l.matchers.items l.i c.index_mut.result.now l.invariant.same
    (omega (arith, c.loop-i-test.true, c.len-i-end.ensures)) c.index_mut.ensures.value in
    first_over c.args.matchers.now.items c.args.text.now c.args.least l.i c.index_mut.result.now c.in-Some.bytes
    there (sym c.in-Some.ensures.over) l.invariant.none

pub loop-i-preserved : goal.loop-i-preserved
loop-i-preserved c =
    let l = c.loop-i in
    let items = l.matchers.items in
    let form = c.index_mut.result.now in
    let there = in_turn c.args.matchers.now.items items l.i form l.invariant.same
    (omega (arith, c.loop-i-test.true, c.len-i-end.ensures)) c.index_mut.ensures.value in
    record {
      same = ap (slice_set items l.i) (c.matches_over.ensures.same ∙ c.index_mut.ensures.value) ∙ set-get_or items l.i form ∙ l.invariant.same;
      known = c.matches_over.ensures.known ∙ l.invariant.known;
      none = none_over_next c.args.matchers.now.items c.args.text.now c.args.least l.i form there
          (sym c.matches_over.ensures.over ∙ c.in_default.is) l.invariant.none;
    }

pub returns-clause-first : goal.returns-clause-first
returns-clause-first c = λ j o at.
    let matchers = c.args.matchers.now.items in
    let within = slice_get_within (lengths matchers c.args.text.now) j (Some o) at in
    c.loop-i.invariant.none j o
    (omega (arith, within, length-map matchers (λ t. match_length t.pattern c.args.text.now), c.loop-i-test.false, c.len-i-end.ensures)) at
