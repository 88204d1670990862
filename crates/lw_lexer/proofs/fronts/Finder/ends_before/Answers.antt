use Rattle.std.proofs.Common.{option_map, subst}
use Rattle.lw_matchers.specs.TokenKinds.{TokenKinds}
use Rattle.lw_tokens.specs.NextToken.{IsNextToken}
use Rattle.lw_lexer.specs.Fronts.{IsEnd}
use Rattle.lw_lexer.specs.Place.{next_of}
use Rattle.lw_lexer.proofs.EndLemmas.{stays_before}
use Rattle.lw_lexer.proofs.fronts.Finder.ends_before.Goals as goal

pub returns-clause-ends : goal.returns-clause-ends
returns-clause-ends c = λ stays.
    let kinds = c.self.inside.set.now in
    let longer = c.in_ok-longer.longer in
    let next : IsNextToken kinds.lexicon longer (option_map next_of c.next-found.result) =
    subst (λ (k : TokenKinds). IsNextToken k.lexicon longer (option_map next_of c.next-found.result)) c.self.invariant.0 (rw c.text-2.ensures.text at c.next-found.ensures.next) in
    let known : IsEnd kinds.lexicon c.args.text.now c.args.own c.args.byte =
    stays_before kinds.lexicon c.keywords.result.now c.self.inside.nfas.now c.args.text.now longer c.args.byte c.next-found.result c.args.own
    (rw c.text.ensures.text at c.in_ok-longer.ensures) (c.is_found.ensures.0 c.if-not-is_found.false) next c.keywords.ensures.keywords
    c.self.invariant.1
    (rw c.text-3.ensures.text at c.next_stays.ensures.stays stays) in
    subst (λ (k : TokenKinds). IsEnd k.lexicon c.args.text.now c.args.own c.args.byte) c.self.view_is known
