-- The tokens of a text in which a name is written, and those of a reference that spans the name.
use Rattle.std.proofs.Common.{◌≡◌, ◌≢◌, ◌+◌, ◌<◌, ℕ, Bool, true, false, List, [], ◌∷◌, ◌++◌, Some, cond, map, not, length, slice_get, refl, sym, ap, ap₂, subst, ◌∙◌, arith}
use Rattle.std.proofs.lemmas.List.{length-append}
use Rattle.std.proofs.lemmas.List.Elements.{filter-append}
use Rattle.lw_base.specs.declared.token.Span.{Span}
use Rattle.lw_base.specs.declared.token.Token.{Token}
use Rattle.lw_grammar.specs.declared.grammar.Grammar.{Grammar}
use Rattle.lw_grammar.specs.Kinds.{AreKinds, Kinds}
use Rattle.lw_reading.specs.Brackets.{span_of_tokens}
use Rattle.lw_reading.specs.Trees.{IsTree}
use Rattle.lw_places.specs.Offers.{HasReferenceAt}
use Rattle.lw_places.specs.Starting.{moved_by}
use Rattle.lw_grammar.specs.Marks.{Mark, kinds_of}
use Rattle.lw_grammar.specs.Sentences.{IsSentence}
use Rattle.lw_tokens.specs.Cut.{kinds, visible}
use Rattle.lw_tokens.specs.Keywords.{AreKeywords}
use Rattle.lw_tokens.specs.Lexicon.{IsLexicon, Lexicon}
use Rattle.lw_tokens.proofs.OneCut.{one_cut}
use Rattle.lw_tree.specs.declared.node.Reference.{Reference}
use Rattle.lw_tree.specs.Parts.{Parts}
use Rattle.lw_substitution.specs.Places.{IsPutAt}
use Rattle.lw_substitution.proofs.PutThere.{put_there}
use Rattle.lw_substitution.specs.Around.{IsCutAround}
use Rattle.lw_substitution.proofs.Cuts.{cut_tiled}
use Rattle.lw_substitution.proofs.ReadSo.{place_of, read_so}
use Rattle.lw_substitution.proofs.Rows.{Between, Tiled, between_visible, no_room, the_tokens_between, tiled_behind, tiled_between}

pub filled : {X : Type 0} (xs : List X) → xs ≢ [] → 0 < length xs
filled [] some = absurd (some refl)
filled (x ∷ xs) some = omega arith

-- a token that has moved is of its kind
pub moved_kinds : (by : ℕ) (ts : List Token) → kinds (visible (map (moved_by by) ts)) ≡ kinds (visible ts)
moved_kinds by [] = refl
moved_kinds by (t ∷ ts) = either t.hidden (moved_kinds by ts)
  where
    either : (b : Bool) → kinds (visible (map (moved_by by) ts)) ≡ kinds (visible ts) →
        kinds (cond (not b) (moved_by by t ∷ visible (map (moved_by by) ts)) (visible (map (moved_by by) ts))) ≡ kinds (cond (not b) (t ∷ visible ts) (visible ts))
    either true same = same
    either false same = ap (λ (ks : List ℕ). t.kind.0 ∷ ks) same

module _ (lexicon : Lexicon) (apart : AreKeywords lexicon.keywords) (front name rest : List ℕ) (tokens added others : List Token)
    (around : IsCutAround lexicon front name rest tokens added others) where
  abbrev pub whole_text : List ℕ
  whole_text = front ++ name ++ rest

  abbrev pub moved_tokens : List Token
  moved_tokens = map (moved_by (length (front ++ name))) others

  abbrev pub all_tokens : List Token
  all_tokens = tokens ++ added ++ moved_tokens

  pub seen_are : visible all_tokens ≡ visible tokens ++ visible added ++ visible moved_tokens
  seen_are =
      filter-append (λ (t : Token). not t.hidden) (tokens ++ added) moved_tokens
      ∙ ap (λ (ts : List Token). ts ++ visible moved_tokens) (filter-append (λ (t : Token). not t.hidden) tokens added)

  -- ---- where they stand

  tokens_tiled : Tiled 0 (length front) tokens
  tokens_tiled = cut_tiled lexicon apart front around.before

  named_tiled : Tiled 0 (length (front ++ name)) (tokens ++ added)
  named_tiled = cut_tiled lexicon apart (front ++ name) around.named

  added_tiled : Tiled (length front) (length (front ++ name)) added
  added_tiled = tiled_behind 0 (length front) (length (front ++ name)) tokens added tokens_tiled named_tiled

  moved_tiled : Tiled (length (front ++ name)) (length whole_text) moved_tokens
  moved_tiled =
      tiled_behind 0 (length (front ++ name)) (length whole_text) (tokens ++ added) moved_tokens named_tiled (cut_tiled lexicon apart whole_text around.whole)

  pub tokens_row : Between 0 (length front) (visible tokens)
  tokens_row = between_visible 0 (length front) tokens (tiled_between 0 (length front) tokens tokens_tiled)

  pub added_row : Between (length front) (length (front ++ name)) (visible added)
  added_row =
      between_visible (length front) (length (front ++ name)) added (tiled_between (length front) (length (front ++ name)) added added_tiled)

  moved_row : Between (length (front ++ name)) (length whole_text) (visible moved_tokens)
  moved_row =
      between_visible (length (front ++ name)) (length whole_text) moved_tokens (tiled_between (length (front ++ name)) (length whole_text) moved_tokens moved_tiled)

  -- ---- a reference that spans the name

  abbrev pub name_span : Span
  name_span = record { start = length front; end = length front + length name }

  to_end : name_span ≡ record { start = length front; end = length (front ++ name) }
  to_end = ap (λ (n : ℕ). record { start = length front; end = n }) (sym (length-append front name))

  spans_name : (s : Span) → s.start ≡ length front → s.end ≡ length front + length name → s ≡ name_span
  spans_name s starts ends = ap₂ (λ (a b : ℕ). record { start = a; end = b }) starts ends

  -- its tokens are those of the name
  tokens_of_name : (ts us vs : List Token) → visible all_tokens ≡ ts ++ us ++ vs → us ≢ [] → span_of_tokens us ≡ name_span →
      (ts ≡ visible tokens) × (us ≡ visible added) × (vs ≡ visible moved_tokens)
  tokens_of_name ts us vs same some spans =
      the_tokens_between (length front) (length (front ++ name)) (length whole_text) (visible tokens) (visible added) (visible moved_tokens) ts us vs tokens_row added_row moved_row
      (sym seen_are ∙ same) some (spans ∙ to_end)

  -- and where it has none, there is no name, and no token of it
  pub no_token : span_of_tokens [] ≡ name_span → visible added ≡ []
  no_token same =
      no_room (length front) (length (front ++ name)) (visible added)
      (omega (arith, length-append front name, ap (λ (s : Span). s.end) same)) added_row

  -- ---- and where it was put

  module _ (g : Grammar) (of : Kinds) where
    -- the reference stands in the tree of the text, put there by its sentence
    pub record IsPutForName (tree : Parts) (r : Reference) : Type 0 where
      pub marks : List Mark
      pub sentence : IsSentence g of marks
      pub kinds_are : kinds_of marks ≡ kinds (visible all_tokens)
      pub is_tree : IsTree g whole_text marks (visible all_tokens) all_tokens tree
      pub place : ℕ
      pub at : slice_get tree.refs place ≡ Some r
      pub put : IsPutAt g whole_text marks (visible all_tokens) place r.span
      pub spans : r.span ≡ name_span

    pub put_for_name : (tree : Parts) (r : Reference) → AreKinds g of → IsLexicon g of lexicon →
        HasReferenceAt g whole_text (length front) (length front + length name) tree r → IsPutForName tree r
    put_for_name tree r are is stands =
        let so = read_so g of lexicon whole_text tree are is stands.reads in
        let same : so.tokens ≡ all_tokens = one_cut lexicon apart whole_text all_tokens so.tokens around.whole so.cut in
        let whole : IsTree g whole_text so.marks (visible all_tokens) all_tokens tree =
        subst (λ (ts : List Token). IsTree g whole_text so.marks (visible ts) ts tree) same so.is_tree in
        let (place, at) = place_of tree.refs r stands.among in record {
          marks = so.marks;
          sentence = so.sentence;
          kinds_are = so.kinds_are ∙ ap (λ (ts : List Token). kinds (visible ts)) same;
          is_tree = whole;
          place = place;
          at = at;
          put = put_there g whole_text so.marks (visible all_tokens) all_tokens tree place r whole at;
          spans = spans_name r.span stands.starts stands.ends;
        }

    module _ (tree : Parts) (r : Reference) (is : IsPutForName tree r) where
      pub parts_of_name : is.put.mid ≢ [] → (is.put.front ≡ visible tokens) × (is.put.mid ≡ visible added) × (is.put.rest ≡ visible moved_tokens)
      parts_of_name some = tokens_of_name is.put.front is.put.mid is.put.rest is.put.tokens_are some (sym is.put.spans ∙ is.spans)

      pub none_spans_nothing : is.put.mid ≡ [] → span_of_tokens [] ≡ name_span
      none_spans_nothing none = sym (ap span_of_tokens none) ∙ sym is.put.spans ∙ is.spans
