-- How a language cuts texts, said by the kinds and the lexicon of its grammar.
use Rattle.std.proofs.Common.{◌≡◌, ℕ, List, All, Result, Ok, Err, IfOk, refl, sym, ap, ◌∙◌, subst}
use Rattle.lw_base.specs.declared.token.Token.{Token}
use Rattle.lw_grammar.specs.Kinds.{AreKinds, Kinds}
use Rattle.lw_grammar.proofs.KindLemmas.{one_kinds}
use Rattle.lw_lexer.specs.TokenPlaces.{IsTokenPlace}
use Rattle.lw_parse.specs.Parsers.{AreOfKinds}
use Rattle.lw_tokens.specs.Cut.{IsCut}
use Rattle.lw_tokens.specs.Lexicon.{IsLexicon, Lexicon}
use Rattle.lw_tokens.proofs.OnePattern.{one_lexicon}
use Rattle.lw_tree.specs.Parts.{Tile}
use Rattle.lw_builder.specs.Built.{ArePartsOf}
use Rattle.lw_lang.specs.Language.{LanguageView}
use Rattle.lw_lang.specs.Ready.{seen_as, IsLanguageReady}
use Rattle.lw_lang.specs.declared.language.Language.TheInside.{Inside}
use Rattle.lw_lang.proofs.CutPlaces.{are_parts, tiles}
use Rattle.lw_lang.proofs.ParsedLemmas.{of_kinds}
use Rattle.lw_lang.proofs.ReadLemmas.{can_parse}

module _ (l : Inside) (seen : LanguageView) (is : seen_as l ≡ seen) (ready : IsLanguageReady l) (text : List ℕ) where
  pub kinds_kept : (kinds : Kinds) → AreKinds seen.grammar kinds → ready.of ≡ kinds
  kinds_kept kinds are = one_kinds l.grammar ready.of kinds ready.kinds (subst (λ v. AreKinds v.grammar kinds) (sym is) are)

  pub lexicon_kept : (kinds : Kinds) (lexicon : Lexicon) → AreKinds seen.grammar kinds → IsLexicon seen.grammar kinds lexicon → l.tokens.lexicon ≡ lexicon
  lexicon_kept kinds lexicon are of =
      one_lexicon l.grammar kinds l.tokens.lexicon lexicon (subst (λ kinds. IsLexicon l.grammar kinds l.tokens.lexicon) (kinds_kept kinds are) ready.lexicon)
      (subst (λ v. IsLexicon v.grammar kinds lexicon) (sym is) of)

  module _ {X E : Type 0} (items : X → List Token) where
    -- what is said of a cut by the lexicon that is kept is said of it by that of the grammar
    pub cut_by : (kinds : Kinds) (lexicon : Lexicon) → AreKinds seen.grammar kinds → IsLexicon seen.grammar kinds lexicon → (result : Result X E) →
        IfOk result (λ x. IsCut l.tokens.lexicon text (items x)) → IfOk result (λ x. (others : List Token) → IsCut l.tokens.lexicon text others → others ≡ items x) →
        IfOk result (λ x. IsCut lexicon text (items x) × ((others : List Token) → IsCut lexicon text others → others ≡ items x))
    cut_by kinds lexicon are of (Ok x) cut one =
        subst (λ lexicon. IsCut lexicon text (items x) × ((others : List Token) → IsCut lexicon text others → others ≡ items x))
        (lexicon_kept kinds lexicon are of) (cut, one)
    cut_by kinds lexicon are of (Err e) cut one = tt

    pub kinds_by : (kinds : Kinds) → AreKinds seen.grammar kinds → (result : Result X E) → IfOk result (λ x. IsCut l.tokens.lexicon text (items x)) →
        IfOk result (λ x. All (IsTokenPlace text) (items x)) → IfOk result (λ x. AreOfKinds kinds (items x))
    kinds_by kinds are (Ok x) cut places =
        subst (λ kinds. AreOfKinds kinds (items x)) (kinds_kept kinds are)
        (of_kinds l.grammar ready.of l.tokens.lexicon l.parser text (items x) (can_parse l seen is ready text (items x) cut places))
    kinds_by kinds are (Err e) cut places = tt

    pub tiles_by : (result : Result X E) → IfOk result (λ x. IsCut l.tokens.lexicon text (items x)) → IfOk result (λ x. All (IsTokenPlace text) (items x)) →
        IfOk result (λ x. Tile 0 (items x))
    tiles_by (Ok x) cut places = tiles l.tokens.lexicon text cut places
    tiles_by (Err e) cut places = tt

    pub parts_by : (result : Result X E) → IfOk result (λ x. All (IsTokenPlace text) (items x)) → IfOk result (λ x. ArePartsOf text (items x))
    parts_by (Ok x) places = are_parts l.tokens.lexicon text (items x) places
    parts_by (Err e) places = tt
