-- Where no sentence reads the tokens of a name as a reference, and where they do not span it, no tree has a reference there.
use Rattle.std.proofs.Common.{◌≡◌, ◌≢◌, ◌+◌, ◌<◌, ℕ, List, [], ◌∷◌, ◌++◌, length, refl, sym, ap, subst, ◌∙◌, arith}
use Rattle.lw_base.specs.declared.token.Span.{Span}
use Rattle.lw_base.specs.declared.token.Token.{Token}
use Rattle.lw_grammar.specs.declared.grammar.Grammar.{Grammar}
use Rattle.lw_grammar.specs.Kinds.{AreKinds, Kinds}
use Rattle.lw_reading.specs.Brackets.{span_of_tokens}
use Rattle.lw_reading.specs.Follows.{MakesReference}
use Rattle.lw_places.specs.Offers.{HasReferenceAt}
use Rattle.lw_places.specs.Starting.{ReferenceNext, marks_with}
use Rattle.lw_grammar.specs.Marks.{Mark, kinds_of}
use Rattle.lw_grammar.specs.Sentences.{IsSentence}
use Rattle.lw_tokens.specs.Cut.{kinds, visible}
use Rattle.lw_tokens.specs.Keywords.{AreKeywords}
use Rattle.lw_tokens.specs.Lexicon.{IsLexicon, Lexicon}
use Rattle.lw_tree.specs.declared.node.Reference.{Reference}
use Rattle.lw_tree.specs.Parts.{Parts}
use Rattle.lw_substitution.specs.Around.{IsCutAround}
use Rattle.lw_substitution.proofs.Around.{IsPutForName, filled, moved_kinds, no_token, none_spans_nothing, parts_of_name, put_for_name}
use Rattle.lw_substitution.proofs.OneBefore.{kinds_after}

module _ (g : Grammar) (of : Kinds) (lexicon : Lexicon) (apart : AreKeywords lexicon.keywords) (are : AreKinds g of) (is_lexicon : IsLexicon g of lexicon)
    (front name rest : List ℕ) (tokens added others : List Token) (around : IsCutAround lexicon front name rest tokens added others) (tree : Parts) (r : Reference)
    (stands : HasReferenceAt g (front ++ name ++ rest) (length front) (length front + length name) tree r) where
  abbrev IsPut : Type 0
  IsPut = IsPutForName lexicon apart front name rest tokens added others around g of tree r

  is_put : IsPut
  is_put = put_for_name lexicon apart front name rest tokens added others around g of tree r are is_lexicon stands

  none_of : (is : IsPut) → is.put.mid ≢ [] →
      ((next : ReferenceNext) (after : List Mark) → MakesReference next.op next.value → kinds_of next.before ≡ kinds (visible tokens) →
      IsSentence g of (marks_with next (kinds (visible added)) ++ after) → kinds_of after ≡ kinds (visible others) → ⊥) → ⊥
  none_of is some none =
      let put = is.put in
      let (before, within, behind) = parts_of_name lexicon apart front name rest tokens added others around g of tree r is some in
      none put.next put.after put.makes (sym put.reads_front ∙ ap kinds before)
      (subst (λ (ts : List Token). IsSentence g of (marks_with put.next (kinds ts) ++ put.after)) within
      (subst (λ (m : List Mark). IsSentence g of m) put.marks_are is.sentence))
      (kinds_after put.next put.front put.mid put.rest put.after put.reads_front (ap kinds_of (sym put.marks_are) ∙ is.kinds_are ∙ ap kinds put.tokens_are)
      ∙ ap kinds behind ∙ moved_kinds (length (front ++ name)) others)

  pub no_sentence : name ≢ [] →
      ((next : ReferenceNext) (after : List Mark) → MakesReference next.op next.value → kinds_of next.before ≡ kinds (visible tokens) →
      IsSentence g of (marks_with next (kinds (visible added)) ++ after) → kinds_of after ≡ kinds (visible others) → ⊥) → ⊥
  no_sentence some none = none_of is_put (λ empty. absurd (is_some empty)) none
    where
      is_some : is_put.put.mid ≡ [] → ⊥
      is_some empty =
          let ends : 0 ≡ length front + length name =
          ap (λ (s : Span). s.end) (none_spans_nothing lexicon apart front name rest tokens added others around g of tree r is_put empty) in
          let long : 0 < length name = filled name some in
          omega (arith, ends, long)

  not_spanned : (is : IsPut) (mid : List Token) → is.put.mid ≡ mid → span_of_tokens (visible added) ≢ record { start = length front; end = length front + length name } → ⊥
  not_spanned is [] empty apart_from =
      let spans = none_spans_nothing lexicon apart front name rest tokens added others around g of tree r is empty in
      apart_from (ap span_of_tokens (no_token lexicon apart front name rest tokens added others around spans) ∙ spans)
  not_spanned is (t ∷ ts) same apart_from =
      let (before, within, behind) =
      parts_of_name lexicon apart front name rest tokens added others around g of tree r is (λ empty. not_nothing (sym empty ∙ same)) in
      apart_from (ap span_of_tokens (sym within) ∙ sym is.put.spans ∙ is.spans)
    where
      not_nothing : [] ≡ t ∷ ts → ⊥
      not_nothing e = cc

  pub none_spans : span_of_tokens (visible added) ≢ record { start = length front; end = length front + length name } → ⊥
  none_spans apart_from = not_spanned is_put is_put.put.mid refl apart_from
