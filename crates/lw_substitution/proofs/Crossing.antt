-- Where a token reaches over the end of a name, or none stands before it, no tree has a reference that ends there.
use Rattle.std.proofs.Common.{◌≡◌, ◌+◌, ◌<◌, ℕ, List, [], ◌∷◌, ◌++◌, Option, IfSome, Contains, drop, length, not, sym, ap, subst, ◌∙◌, arith}
use Rattle.std.proofs.lemmas.List.{length-append}
use Rattle.std.proofs.lemmas.List.Elements.{All-contains, All-filter, Contains-append_left, Contains-append_right}
use Rattle.lw_base.specs.declared.token.Span.{Span}
use Rattle.lw_base.specs.declared.token.Token.{Token}
use Rattle.lw_grammar.specs.declared.grammar.Grammar.{Grammar}
use Rattle.lw_grammar.specs.Kinds.{AreKinds, Kinds}
use Rattle.lw_reading.specs.Brackets.{span_of_tokens}
use Rattle.lw_places.specs.Offers.{HasReferenceAt}
use Rattle.lw_tokens.specs.Cut.{IsCut, IsCutTo, visible}
use Rattle.lw_tokens.specs.Keywords.{AreKeywords}
use Rattle.lw_tokens.specs.Lexicon.{IsLexicon, Lexicon}
use Rattle.lw_tokens.specs.NextToken.{IsNextToken, Next}
use Rattle.lw_tree.specs.declared.node.Reference.{Reference}
use Rattle.lw_tree.specs.Parts.{Parts}
use Rattle.lw_substitution.proofs.PutThere.{put_there}
use Rattle.lw_substitution.proofs.Cuts.{IsCutToEnd, all_ends, last_of, none_reaches_over}
use Rattle.lw_substitution.proofs.ReadSo.{place_of, read_so}

module _ (lexicon : Lexicon) (apart : AreKeywords lexicon.keywords) (text : List ℕ) where
  -- a text is cut up to where some of its tokens end
  cut_to_last : (tokens front rest mid : List Token) → IsCut lexicon text tokens → visible tokens ≡ front ++ mid ++ rest → (end : ℕ) → 0 < end →
      (span_of_tokens mid).end ≡ end → (ts : List Token) × IsCutTo lexicon text end ts
  cut_to_last tokens front rest [] is same end some ends = absurd (omega (arith, some, ends))
  cut_to_last tokens front rest (t ∷ mid) is same end some ends =
      let (u, has, last) = last_of t mid in
      let among : Contains (visible tokens) u =
      subst (λ (ts : List Token). Contains ts u) (sym same)
      (Contains-append_left (front ++ t ∷ mid) rest u (Contains-append_right front (t ∷ mid) u has)) in
      let (ts, cut) =
      All-contains (IsCutToEnd lexicon apart text) (visible tokens) u
      (All-filter (λ (x : Token). not x.hidden) (IsCutToEnd lexicon apart text) tokens (all_ends lexicon apart text is)) among in
      (ts, subst (λ (k : ℕ). IsCutTo lexicon text k ts) (last ∙ ends) cut)

  module _ (g : Grammar) (of : Kinds) (are : AreKinds g of) (is_lexicon : IsLexicon g of lexicon) where
    none_ends_there : (start at end : ℕ) (ts : List Token) (found : Option Next) → IsCutTo lexicon text at ts → at < end →
        IsNextToken lexicon (drop at text) found → IfSome found (λ next. end < at + next.bytes) → (tree : Parts) (r : Reference) →
        ¬ HasReferenceAt g text start end tree r
    none_ends_there start at end ts found first before is over tree r stands =
        let so = read_so g of lexicon text tree are is_lexicon stands.reads in
        let (place, there) = place_of tree.refs r stands.among in
        let put = put_there g text so.marks (visible so.tokens) so.tokens tree place r so.is_tree there in
        let (us, last) =
        cut_to_last so.tokens put.front put.rest put.mid so.cut put.tokens_are end (omega (arith, before)) (ap (λ (s : Span). s.end) (sym put.spans) ∙ stands.ends) in
        none_reaches_over lexicon apart text found last first before is over

pub none_crossed : (g : Grammar) (of : Kinds) (lexicon : Lexicon) → AreKeywords lexicon.keywords → AreKinds g of → IsLexicon g of lexicon →
    (front name rest : List ℕ) (at : ℕ) (ts : List Token) (found : Option Next) → IsCutTo lexicon (front ++ name ++ rest) at ts → at < length (front ++ name) →
    IsNextToken lexicon (drop at (front ++ name ++ rest)) found → IfSome found (λ next. length (front ++ name) < at + next.bytes) → (tree : Parts) (r : Reference) →
    ¬ HasReferenceAt g (front ++ name ++ rest) (length front) (length front + length name) tree r
none_crossed g of lexicon apart are is_lexicon front name rest at ts found first before is over tree r stands =
    none_ends_there lexicon apart (front ++ name ++ rest) g of are is_lexicon (length front) at (length (front ++ name)) ts found first before is over tree r
    (subst (λ (end : ℕ). HasReferenceAt g (front ++ name ++ rest) (length front) end tree r) (sym (length-append front name)) stands)
