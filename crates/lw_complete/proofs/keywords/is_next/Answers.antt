use Rattle.std.proofs.Common.{◌≡◌, ◌↔◌, ◌∷◌, [], ℕ, List, IsTrue, length, subst}
use Rattle.std.proofs.lemmas.Str.Pattern.{starts_text}
use Rattle.lw_base.specs.declared.token.Token.{Token}
use Rattle.lw_places.specs.Offers.{visible_token}
use Rattle.lw_lexer.specs.Recut.{IsRecut, added}
use Rattle.lw_complete.proofs.KeywordsCut.{cuts_for, fits, next_alone, tail_within}
use Rattle.lw_complete.proofs.NamedWritten.{begun, begun_not, cut_as_named, never, uncut_as_named}
use Rattle.lw_complete.proofs.keywords.is_next.Goals as goal

pub added-requires : goal.added-requires
added-requires c =
    let recut = rw c.in-Some.is at c.in_ok-recut.ensures.recut in
    tail_within c.args.recutter.now c.text-2.result.now c.in-Some.recut recut

pub last_token-requires : goal.last_token-requires
last_token-requires c =
    let (of, lexicon, typed, cuts) = c.requires.known in
    let recut : IsRecut c.args.recutter.now c.args.keyword.now c.in-Some.recut =
    subst (λ (t : List ℕ). IsRecut c.args.recutter.now t c.in-Some.recut) c.text-2.ensures.text (rw c.in-Some.is at c.in_ok-recut.ensures.recut) in
    (fits c.args.typing.now lexicon c.args.recutter.now cuts c.args.keyword.now c.in-Some.recut recut c.args.kind.0, recut.short)

pub returns-then-not-starts_with-clause-next : goal.returns-then-not-starts_with-clause-next
returns-then-not-starts_with-clause-next c of lexicon typed =
    let word = c.args.typing.now.word.now in
    let lent = c.text.result.now in
    never (λ (begins, cut).
    begun_not word c.args.keyword.now lent c.starts_with.result c.text.ensures.text (starts_text c.starts_with.result word lent c.starts_with.ensures.cases)
    c.if-not-starts_with.true begins)

pub returns-in-None-clause-next : goal.returns-in-None-clause-next
returns-in-None-clause-next c of lexicon typed =
    let typing = c.args.typing.now in
    let (kinds, other, also, cuts_other) = c.requires.known in
    let cuts = cuts_for typing c.args.recutter.now also typed cuts_other in
    let not = rw c.in-None.is at (c.in_ok-recut.ensures.added typing.front.now typing.tokens.now cuts.end) in
    let alone : List Token = visible_token c.args.kind.0 (length typing.front.now) (length c.args.keyword.now) ∷ [] in
    never (λ (begins, cut). uncut_as_named lexicon typing c.args.recutter.now cuts c.text-2.result.now c.args.keyword.now c.text-2.ensures.text not alone cut)

pub returns-in-Some-clause-next : goal.returns-in-Some-clause-next
returns-in-Some-clause-next c of lexicon typed =
    let typing = c.args.typing.now in
    let keyword = c.args.keyword.now in
    let recutter = c.args.recutter.now in
    let word = typing.word.now in
    let lent = c.text.result.now in
    let (kinds, other, also, cuts_other) = c.requires.known in
    let cuts = cuts_for typing recutter also typed cuts_other in
    let begins =
    begun word keyword lent c.starts_with.result c.text.ensures.text (starts_text c.starts_with.result word lent c.starts_with.ensures.cases) c.if-not-starts_with.false in
    let told = rw c.in-Some.is at (c.in_ok-recut.ensures.added typing.front.now typing.tokens.now cuts.end) in
    let recut : IsRecut recutter keyword c.in-Some.recut =
    subst (λ (t : List ℕ). IsRecut recutter t c.in-Some.recut) c.text-2.ensures.text (rw c.in-Some.is at c.in_ok-recut.ensures.recut) in
    let both = cut_as_named lexicon typing recutter cuts c.text-2.result.now keyword c.text-2.ensures.text c.in-Some.recut told in
    next_alone typing lexicon recutter cuts keyword c.in-Some.recut recut c.args.kind.0 begins both c.is_alone.result
    (subst (λ (t : Token). IsTrue c.is_alone.result ↔ (added c.in-Some.recut ≡ t ∷ [])) c.last_token.ensures
    (subst (λ (ts : List Token). IsTrue c.is_alone.result ↔ (ts ≡ c.last_token.result ∷ [])) c.added.ensures c.is_alone.ensures))
