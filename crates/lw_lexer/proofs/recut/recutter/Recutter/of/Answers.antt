use Rattle.std.proofs.Common.{ℕ, ◌≡◌, List, IfSome, IsCharBoundary, drop, length, refl, sym, ap, ◌∙◌, subst, arith, length-drop}
use Rattle.lw_matching.specs.Nfas.{AreNfas}
use Rattle.lw_matchers.specs.TokenKinds.{TokenKinds, AreTokenKinds}
use Rattle.lw_tokens.specs.Cut.{IsCut}
use Rattle.lw_lexer.specs.Recut.{IsSurePlace}
use Rattle.lw_lexer.proofs.Behind.{end_made, sure_parted}
use Rattle.lw_base.proofs.Bytes.{utf8_small}
use Rattle.lw_lexer.proofs.recut.recutter.Recutter.of.Goals as goal
use Rattle.lw_lexer.proofs.recut.recutter.Recutter.of.Goals.{In_ok-text}

-- the end of the text, from where its tokens may change
module _ (c : In_ok-text) where
  text_is : c.in_ok-text.text ≡ drop c.sure_place-from.result c.args.front.now
  text_is = c.in_ok-text.ensures ∙ c.range_from.ensures.value ∙ ap (λ (text : List ℕ). drop c.sure_place-from.result text) c.text.ensures.text

  keywords_are : c.keywords-keywords.result.now ≡ c.args.tables.now.lexicon.keywords
  keywords_are = c.keywords-keywords.ensures.keywords ∙ ap (λ (set : TokenKinds). set.lexicon.keywords) c.set-set.ensures

  kinds : AreTokenKinds c.args.tables.now
  kinds = subst AreTokenKinds c.set-set.ensures c.keywords-keywords.ensures.kinds

  automata : IfSome c.in_ok-nfas.nfas (λ nfas. AreNfas c.args.tables.now.lexicon.terminals nfas.items)
  automata = subst (λ (set : TokenKinds). IfSome c.in_ok-nfas.nfas (λ nfas. AreNfas set.lexicon.terminals nfas.items)) c.set-set.ensures c.in_ok-nfas.ensures.made

  sure : IsSurePlace c.args.tables.now.lexicon c.args.front.now c.args.tokens.now c.sure_place-from.result
  sure = c.sure_place-from.ensures.sure c.args.tables.now.lexicon (sym keywords_are) automata c.requires.cut

pub range_from-requires : goal.range_from-requires
range_from-requires c = λ some. subst (λ (text : List ℕ). IsCharBoundary text c.sure_place-from.result) (sym c.text.ensures.text) c.sure_place-from.ensures.boundary

pub own_tokens-requires-clause-short : goal.own_tokens-requires-clause-short
own_tokens-requires-clause-short c =
    omega (
      arith,
      c.requires.short,
      length-drop c.sure_place-from.result c.args.front.now,
      ap length (text_is (goal.at.own_tokens-requires-clause-short c).In_ok-text),
    )

pub own_tokens-requires-clause-cut : goal.own_tokens-requires-clause-cut
own_tokens-requires-clause-cut c =
    let front = c.args.front.now in
    let lexicon = c.args.tables.now.lexicon in
    let before = (goal.at.own_tokens-requires-clause-cut c).In_ok-text in
    let parted = sure_parted lexicon front c.args.tokens.now c.sure_place-from.result (kinds before).keywords (utf8_small front c.text.ensures.utf8)
    (sure before) c.requires.cut in (
      parted.others,
      subst (λ set. IsCut set.lexicon c.in_ok-text.text parted.others) (sym c.in_ok-lexer.ensures)
          (subst (λ (text : List ℕ). IsCut lexicon text parted.others) (sym (text_is before)) parted.cut),
    )

pub returns-clause-end : goal.returns-clause-end
returns-clause-end c =
    let front = c.args.front.now in
    let before = (goal.at.returns-clause-end c).In_ok-text in
    end_made c.args.tables.now.lexicon front c.args.tokens.now c.sure_place-from.result (kinds before).keywords
    (utf8_small front c.text.ensures.utf8) (sure before) c.requires.cut
    (record { lexicon = c.own_tokens.new.lexer.lexicon; text = c.in_ok-text.text; tokens = c.in_ok-tokens.tokens.items; from = c.sure_place-from.result })
    (ap (λ set. set.lexicon) (c.own_tokens.ensures.same ∙ c.in_ok-lexer.ensures)) (text_is before) refl
    (subst (λ set. IsCut set.lexicon c.in_ok-text.text c.in_ok-tokens.tokens.items) (sym c.own_tokens.ensures.same) c.in_ok-tokens.ensures.cut)
