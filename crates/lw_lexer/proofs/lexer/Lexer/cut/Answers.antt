use Rattle.std.proofs.Common.{◌≡◌, ◌<◌, ◌+◌, ◌∙◌, length, drop, Some, None, IsCharBoundary, sym, ap, subst, arith}
use Rattle.std.proofs.lemmas.List.Elements.{All-nil, All-push}
use Rattle.std.proofs.lemmas.Str.{IsCharBoundary-start, IsCharBoundary-from_rest}
use Rattle.lw_base.specs.declared.token.Span.{Span}
use Rattle.lw_base.specs.declared.token.Token.{Token}
use Rattle.lw_matchers.specs.TokenKinds.{TokenKinds}
use Rattle.lw_tokens.specs.Cut as cut
use Rattle.lw_tokens.specs.Cut.{IsCut, IsCutTo, HasNoTokenAt}
use Rattle.lw_tokens.specs.Keywords.{AreKeywords}
use Rattle.lw_tokens.specs.NextToken.{IsNextToken}
use Rattle.lw_lexer.specs.Place.{next_of}
use Rattle.lw_lexer.specs.Known.{AreKnownIn, AreKnownAt}
use Rattle.lw_lexer.specs.TokenPlaces.{IsTokenPlace}
use Rattle.lw_tokens.proofs.OneCut.{one_cut, no_cut, one_place}
use Rattle.lw_lexer.proofs.KnownLemmas.{known_at}
use Rattle.lw_lexer.proofs.lexer.Lexer.cut.Goals as goal
use Rattle.lw_lexer.proofs.lexer.Lexer.cut.Goals.{After-cutting, In_default}

pub cutting-init : goal.cutting-init
cutting-init c = record {
  set = c.self.view_is;
  keywords = subst (λ (set : TokenKinds). AreKeywords set.lexicon.keywords) c.self.view_is c.self.invariant.1.keywords;
  kinds = c.self.invariant.1;
  fronts = c.self.invariant.2;
  nfas = c.self.invariant.3;
  matchers = c.self.invariant.0;
  known = subst (λ (set : TokenKinds). AreKnownIn set.lexicon.terminals c.text-text.result.now c.in_ok-known.known.items) c.self.view_is c.in_ok-known.ensures;
  boundary = IsCharBoundary-start c.text-text.result.now c.text-text.utf8;
  cut = rw c.new-tokens.ensures.items cut.start;
  places = rw c.new-tokens.ensures.items (All-nil (IsTokenPlace c.text-text.result.now));
}

pub next_token-requires-clause-known : goal.next_token-requires-clause-known
next_token-requires-clause-known c =
    let inv = c.cutting.invariant in
    let text = c.text-text.result.now in
    let known = known_at c.args.self.now.lexicon.terminals text c.cutting.known.items c.cutting.at inv.boundary inv.known in
    rw c.range_from-rest.ensures.value
    (subst (λ (set : TokenKinds). AreKnownAt set.lexicon.terminals (drop c.cutting.at text) c.cutting.at c.cutting.known.items) (sym inv.set) known)

pub cutting-preserved : goal.cutting-preserved
cutting-preserved c =
    let inv = c.cutting.invariant in
    let text = c.text-text.result.now in
    let at = c.cutting.at in
    let next = c.in-Some.next in
    let below : at < length text = omega (arith, c.cutting-test.true) in
    let boundary : IsCharBoundary (drop at text) next.bytes = rw c.range_from-rest.ensures.value at c.in-Some.ensures.boundary in
    let is_next : IsNextToken c.args.self.now.lexicon (drop at text) (Some (next_of next)) =
    subst (λ (set : TokenKinds). IsNextToken set.lexicon (drop at text) (Some (next_of next))) inv.set (rw c.range_from-rest.ensures.value at c.in-Some.ensures.next) in
    let end : IsCharBoundary text (at + next.bytes) = IsCharBoundary-from_rest text at next.bytes (omega (arith, below)) boundary in
    let token : Token = record { kind = next.kind; span = record { start = at; end = at + next.bytes }; hidden = next.hidden } in
    let place : IsTokenPlace text token = record {
      not_empty = omega (arith, c.in-Some.ensures.some);
      within = end.0;
      starts = inv.boundary;
      ends = end;
    } in
    record {
      set = inv.set;
      keywords = inv.keywords;
      kinds = inv.kinds;
      fronts = inv.fronts;
      nfas = inv.nfas;
      matchers = c.next_token.ensures.same ∙ inv.matchers;
      known = subst (AreKnownIn c.args.self.now.lexicon.terminals text) (sym c.next_token.ensures.known) inv.known;
      boundary = end;
      cut = rw (c.in_ok-push.ensures.items, c.span_of-in-cutting.ensures) (cut.then inv.cut below is_next);
      places = rw (c.in_ok-push.ensures.items, c.span_of-in-cutting.ensures) (All-push (IsTokenPlace text) c.cutting.tokens.items token inv.places place);
    }

-- no token stands where the text is left
fault : (c : In_default) → HasNoTokenAt c.args.self.now.lexicon c.args.text.now c.cutting.at
fault c =
    let lexicon = c.args.self.now.lexicon in
    let held = c.text-text.result.now in
    let none : IsNextToken lexicon (drop c.cutting.at held) None =
    subst (λ (set : TokenKinds). IsNextToken set.lexicon (drop c.cutting.at held) None) c.cutting.invariant.set
    (rw c.range_from-rest.ensures.value at c.in_default.ensures.next) in
    let there : HasNoTokenAt lexicon held c.cutting.at = record {
      before = c.cutting.tokens.items;
      cut = c.cutting.invariant.cut;
      inside = omega (arith, c.cutting-test.true);
      none = none;
    } in
    rw c.text-text.ensures.text at there

pub returns-in_default-clause-no_cut : goal.returns-in_default-clause-no_cut
returns-in_default-clause-no_cut c = λ s e tokens cut.
    no_cut c.args.self.now.lexicon c.cutting.invariant.keywords c.args.text.now c.cutting.at tokens
    (fault (goal.at.returns-in_default-clause-no_cut c).In_default) cut

pub returns-in_default-clause-one_place : goal.returns-in_default-clause-one_place
returns-in_default-clause-one_place c = λ s e at other.
    let same : c.span_of.result ≡ s = cc in
    one_place c.args.self.now.lexicon c.cutting.invariant.keywords c.args.text.now at c.cutting.at other
    (fault (goal.at.returns-in_default-clause-one_place c).In_default) ∙ ap (λ (x : Span). x.start) (sym c.span_of.ensures ∙ same)

-- the whole text is cut
whole : (c : After-cutting) → IsCut c.args.self.now.lexicon c.args.text.now c.cutting.tokens.items
whole c =
    let lexicon = c.args.self.now.lexicon in
    let held = c.text-text.result.now in
    let end : c.cutting.at ≡ length held = omega (arith, c.cutting-test.false, c.cutting.invariant.boundary.0) in
    let cut : IsCut lexicon held c.cutting.tokens.items = subst (λ n. IsCutTo lexicon held n c.cutting.tokens.items) end c.cutting.invariant.cut in
    rw c.text-text.ensures.text at cut

pub returns-clause-one_cut : goal.returns-clause-one_cut
returns-clause-one_cut c = λ others other.
    one_cut c.args.self.now.lexicon c.cutting.invariant.keywords c.args.text.now c.cutting.tokens.items others
    (whole (goal.at.returns-clause-one_cut c).After-cutting) other

pub returns-clause-no_fault : goal.returns-clause-no_fault
returns-clause-no_fault c = λ at fault.
    no_cut c.args.self.now.lexicon c.cutting.invariant.keywords c.args.text.now at c.cutting.tokens.items fault
    (whole (goal.at.returns-clause-no_fault c).After-cutting)
