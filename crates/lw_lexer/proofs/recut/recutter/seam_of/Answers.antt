use Rattle.std.proofs.Common.{ℕ, ◌-◌, ◌≤◌, ◌++◌, false, length, get_or, refl, ap, ◌∙◌, subst, arith}
use Rattle.std.specs.Option.{option_map}
use Rattle.lw_base.specs.declared.token.Token.{Token}
use Rattle.lw_lexer.specs.Place.{next_of}
use Rattle.lw_matchers.specs.TokenKinds.{TokenKinds}
use Rattle.lw_tokens.specs.Cut as cut
use Rattle.lw_tokens.specs.NextToken.{IsNextToken}
use Rattle.lw_lexer.specs.Seams.{IsMeeting}
use Rattle.lw_lexer.specs.declared.recut.seam.Meeting.TheVariants.{Across}
use Rattle.lw_lexer.proofs.Seaming.{all_meet, crossed, in_order, one_more, starts}
use Rattle.lw_lexer.proofs.recut.recutter.seam_of.Goals as goal

abbrev no_token : Token
no_token = record { kind = record { 0 = 0 }; span = record { start = 0; end = 0 }; hidden = false }

pub tokens-init : goal.tokens-init
tokens-init c = record { kept = refl; cut = λ more same are small. cut.start }

pub range_from-behind-requires : goal.range_from-behind-requires
range_from-behind-requires c = λ some.
    starts c.args.lexer.now.lexicon c.args.it.now.text c.args.it.now.tokens.items c.requires.cut c.args.text.now c.requires.begins
    c.deref-token-items.result.now c.deref-token-items.ensures.value c.tokens.token-index c.tokens-test.true no_token c.requires.places

pub compare-requires : goal.compare-requires
compare-requires c =
    in_order c.args.lexer.now.lexicon c.args.it.now.text c.args.it.now.tokens.items c.requires.cut c.args.text.now c.requires.begins
    c.deref-token-items.result.now c.deref-token-items.ensures.value c.tokens.token-index c.tokens-test.true no_token c.requires.places

pub tokens-preserved : goal.tokens-preserved
tokens-preserved c =
    let behind = c.range_from-behind.result.now in
    let found = option_map next_of c.next-found.result in
    let here : IsNextToken c.args.lexer.now.lexicon behind found =
    subst (λ (set : TokenKinds). IsNextToken set.lexicon behind found) c.tokens.invariant.kept c.next-found.ensures.next in
    record {
      kept = c.next-found.ensures.same ∙ c.tokens.invariant.kept;
      cut = λ more same are small.
          one_more c.args.lexer.now.lexicon c.args.it.now.text c.args.it.now.tokens.items c.requires.cut c.args.text.now c.requires.begins
          c.deref-token-items.result.now c.deref-token-items.ensures.value c.tokens.token-index c.tokens-test.true no_token
          c.args.keywords.now c.args.nfas.now behind c.range_from-behind.ensures.value found (c.stays.ensures c.if-not-stays.false) here same are more small
          (c.tokens.invariant.cut more same are small) c.in-Same.ensures;
    }

pub returns-in-Across-clause-crossed : goal.returns-in-Across-clause-crossed
returns-in-Across-clause-crossed c more is_crossed same are small =
    let own = c.args.it.now.text in
    let behind = c.range_from-behind.result.now in
    let found = option_map next_of c.next-found.result in
    let token = get_or c.deref-token-items.result.now c.tokens.token-index no_token in
    let here : IsNextToken c.args.lexer.now.lexicon behind found =
    subst (λ (set : TokenKinds). IsNextToken set.lexicon behind found) c.tokens.invariant.kept c.next-found.ensures.next in
    let across : IsMeeting found token (length own - token.span.start) Across =
    subst (λ (n : ℕ). IsMeeting found token (n - token.span.start) Across) (ap length c.bytes-end.ensures.bytes) c.in-Across.ensures in
    crossed c.args.lexer.now.lexicon own c.args.it.now.tokens.items c.requires.cut c.args.text.now c.requires.begins
    c.deref-token-items.result.now c.deref-token-items.ensures.value c.tokens.token-index c.tokens-test.true no_token
    c.args.keywords.now c.args.nfas.now behind c.range_from-behind.ensures.value found (c.stays.ensures c.if-not-stays.false) here same are more small
    (c.tokens.invariant.cut more same are small) across

pub returns-clause-meets : goal.returns-clause-meets
returns-clause-meets c more is same are small =
    let past : length c.args.it.now.tokens.items ≤ c.tokens.token-index = omega (arith, c.tokens-test.false, c.tokens.auto.token-index-end) in
    all_meet c.args.lexer.now.lexicon c.args.it.now.text c.args.it.now.tokens.items c.requires.cut (c.args.text.now ++ more) c.tokens.token-index past
    (c.tokens.invariant.cut more same are small)
