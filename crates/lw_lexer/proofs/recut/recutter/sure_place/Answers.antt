use Rattle.std.proofs.Common.{ℕ, ◌++◌, [], List, All, IsCharBoundary, length, take, drop, refl, sym, subst}
use Rattle.std.proofs.lemmas.List.{take-append-drop}
use Rattle.std.proofs.lemmas.List.Elements.{All-take, All-weaker}
use Rattle.std.proofs.lemmas.Str.{IsCharBoundary-start}
use Rattle.lw_base.specs.declared.token.Token.{Token}
use Rattle.lw_matching.specs.Nfas.{AreNfas}
use Rattle.lw_lexer.specs.TokenPlaces.{IsTokenPlace}
use Rattle.lw_matching.specs.Front.{FrontStays}
use Rattle.lw_tokens.specs.Cut as cut
use Rattle.lw_tokens.specs.Cut.{IsCutTo}
use Rattle.lw_lexer.proofs.Automata.{lent_automata}
use Rattle.lw_lexer.proofs.FrontEnds.{boundary_from}
use Rattle.lw_lexer.proofs.recut.recutter.sure_place.Goals as goal

pub sure_tokens-count-requires : goal.sure_tokens-count-requires
sure_tokens-count-requires c =
    subst (λ (text : List ℕ). All (λ (t : Token). IsCharBoundary text t.span.start) c.args.tokens.now) (sym c.text-text.ensures.text)
    (All-weaker (IsTokenPlace c.args.front.now) (λ (t : Token). IsCharBoundary c.args.front.now t.span.start) (λ t place. place.starts) c.args.tokens.now c.requires.places)

pub returns-in_default-clause-boundary : goal.returns-in_default-clause-boundary
returns-in_default-clause-boundary c =
    subst (λ (text : List ℕ). IsCharBoundary text 0) c.text-text.ensures.text (IsCharBoundary-start c.text-text.result.now c.text-text.utf8)

pub returns-in_default-clause-sure : goal.returns-in_default-clause-sure
returns-in_default-clause-sure c lexicon same nfas is =
    record { first = []; others = c.args.tokens.now; are = refl; stand = λ more small. cut.start }

pub returns-clause-boundary : goal.returns-clause-boundary
returns-clause-boundary c =
    let front = c.args.front.now in
    let tokens = c.args.tokens.now in
    let n = c.sure_tokens-count.result in
    subst (IsCharBoundary front) (sym c.end_of.ensures)
    (boundary_from front 0 (take n tokens) (subst (λ (text : List ℕ). IsCharBoundary text 0) c.text-text.ensures.text (IsCharBoundary-start c.text-text.result.now c.text-text.utf8))
    (All-take (IsTokenPlace front) n tokens c.requires.places))

pub returns-clause-sure : goal.returns-clause-sure
returns-clause-sure c lexicon same nfas is =
    let front = c.args.front.now in
    let tokens = c.args.tokens.now in
    let n = c.sure_tokens-count.result in
    let are : AreNfas lexicon.terminals c.as_slice.result.now =
    lent_automata lexicon.terminals _ c.in-Some.nfas c.as_slice.result.now c.in-Some.is c.as_slice.ensures.value nfas in
    let stays : FrontStays c.args.keywords.now c.as_slice.result.now front tokens n =
    subst (λ (text : List ℕ). FrontStays c.args.keywords.now c.as_slice.result.now text tokens n) c.text-text.ensures.text c.sure_tokens-count.ensures.stays in
    record {
      first = take n tokens;
      others = drop n tokens;
      are = sym (take-append-drop n tokens);
      stand = λ more small. subst (λ (at : ℕ). IsCutTo lexicon (front ++ more) at (take n tokens)) (sym c.end_of.ensures)
          (stays.stays lexicon same are (length front) is more small);
    }
