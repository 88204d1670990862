use Rattle.std.proofs.Common.{option_map, subst}
use Rattle.lw_matchers.specs.TokenKinds.{TokenKinds}
use Rattle.lw_tokens.specs.Keywords.{AreKeywords}
use Rattle.lw_tokens.specs.NextToken.{IsNextToken}
use Rattle.lw_tokens.proofs.OneCut.{one_next}
use Rattle.lw_lexer.specs.Place.{next_of}
use Rattle.lw_lexer.proofs.NextLemmas.{same_place}
use Rattle.lw_lexer.proofs.lexer.Lexer.next.Goals as goal

pub returns-clause-one : goal.returns-clause-one
returns-clause-one c = λ other is.
    let lexicon = c.args.self.now.lexicon in
    let found = c.next_token.result in
    let keywords = subst (λ (set : TokenKinds). AreKeywords set.lexicon.keywords) c.self.view_is c.self.invariant.1.keywords in
    let next = subst (λ (set : TokenKinds). IsNextToken set.lexicon c.args.text.now (option_map next_of found)) c.self.view_is c.next_token.ensures.next in
    same_place other found (one_next lexicon keywords c.args.text.now (option_map next_of other) (option_map next_of found) is next)
