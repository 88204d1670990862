-- A row of keywords yields its tokens and nothing else.
use Rattle.std.proofs.Common.{◌≡◌, ◌≢◌, ℕ, ◌<◌, List, [], ◌∷◌, ◌++◌, Some, slice_get, map, refl, sym, ap, ◌∙◌, subst, arith, AllPairs}
use Rattle.std.specs.List.{AllZip}
use Rattle.std.proofs.lemmas.Option.{slice_get_within, get_or_from_slice_get}
use Rattle.lw_base.specs.declared.token.Span.{Span}
use Rattle.lw_grammar.specs.declared.grammar.Grammar.{Grammar}
use Rattle.lw_grammar.specs.declared.rule.Element.TheVariants.{Keyword, Group, outs-Keyword, outs-Group}
use Rattle.lw_grammar.specs.declared.rule.Element.TheOpen as layer
use Rattle.lw_grammar.specs.Kinds.{Kinds, IsKeywordKind}
use Rattle.lw_grammar.specs.Marks.{Mark}
use Rattle.lw_grammar.specs.Marks as mark
use Rattle.lw_grammar.specs.Yields.{Yields, Gives, YieldsAll}
use Rattle.lw_grammar.specs.Yields as y
use Rattle.lw_grammar.specs.Worked.{keyword_row}

module _ (g : Grammar) (kinds : Kinds) where
  -- the keywords of a grammar differ, so a text has one kind
  pub keyword_once : AllPairs (λ a b. a ≢ b) kinds.keywords → (text : List ℕ) (k l : ℕ) → IsKeywordKind kinds text k → IsKeywordKind kinds text l → k ≡ l
  keyword_once differ text k l at_k at_l = by (λ below. apart k l below at_k at_l) (λ below. apart l k below at_l at_k)
    where
      apart : (i j : ℕ) → i < j → slice_get kinds.keywords i ≡ Some text → slice_get kinds.keywords j ≡ Some text → ⊥
      apart i j below at_i at_j =
          differ i j text below (slice_get_within kinds.keywords j text at_j)
          (get_or_from_slice_get kinds.keywords i text text at_i ∙ sym (get_or_from_slice_get kinds.keywords j text text at_j))

      by : (k < l → ⊥) → (l < k → ⊥) → k ≡ l
      by not_below not_above = omega arith

  module _ (differ : AllPairs (λ a b. a ≢ b) kinds.keywords) where
    one_keyword : (text : List ℕ) (s : Span) (k : ℕ) (m : List Mark) → IsKeywordKind kinds text k → Yields g kinds (Keyword text s) m → m ≡ mark.Token k ∷ []
    one_keyword text s k m is (y.yields gives) = inside (subst (λ f. Gives g kinds f m) (outs-Keyword text s) gives)
      where
        inside : {m : List Mark} → Gives g kinds (layer.Keyword text s) m → m ≡ mark.Token k ∷ []
        inside (y.keyword {k = l} at) = ap (λ n. mark.Token n ∷ []) (keyword_once differ text l k at is)

    row_gives : (ws : List (List ℕ × Span)) (ks : List ℕ) (m : List Mark) → AllZip (λ w k. IsKeywordKind kinds w.0 k) ws ks → YieldsAll g kinds (keyword_row ws) m →
        m ≡ map mark.Token ks
    row_gives [] [] m all y.none = refl
    row_gives [] (k ∷ ks) m all _ = absurd all
    row_gives (w ∷ ws) [] m all _ = absurd all
    row_gives (w ∷ ws) (k ∷ ks) m all (y.more {m = first} {n = rest} p ps) =
        ap (λ x. x ++ rest) (one_keyword w.0 w.1 k first all.0 p) ∙ ap (λ x. mark.Token k ∷ x) (row_gives ws ks rest all.1 ps)

    -- its tokens and nothing else
    pub keyword_row_yields : (ws : List (List ℕ × Span)) (ks : List ℕ) (s : Span) (m : List Mark) → AllZip (λ w k. IsKeywordKind kinds w.0 k) ws ks →
        Yields g kinds (Group (keyword_row ws) s) m → m ≡ map mark.Token ks
    keyword_row_yields ws ks s m all (y.yields gives) = inside (subst (λ f. Gives g kinds f m) (outs-Group (keyword_row ws) s) gives)
      where
        inside : {m : List Mark} → Gives g kinds (layer.Group (keyword_row ws) s) m → m ≡ map mark.Token ks
        inside (y.grouped {m} parts) = row_gives ws ks m all parts

  -- and its tokens it does yield
  row_can : (ws : List (List ℕ × Span)) (ks : List ℕ) → AllZip (λ w k. IsKeywordKind kinds w.0 k) ws ks → YieldsAll g kinds (keyword_row ws) (map mark.Token ks)
  row_can [] [] all = y.none
  row_can [] (k ∷ ks) all = absurd all
  row_can (w ∷ ws) [] all = absurd all
  row_can (w ∷ ws) (k ∷ ks) all =
      let first = y.yields (subst (λ f. Gives g kinds f (mark.Token k ∷ [])) (sym (outs-Keyword w.0 w.1)) (y.keyword all.0)) in
      y.more first (row_can ws ks all.1)

  pub keyword_row_can : (ws : List (List ℕ × Span)) (ks : List ℕ) (s : Span) → AllZip (λ w k. IsKeywordKind kinds w.0 k) ws ks →
      Yields g kinds (Group (keyword_row ws) s) (map mark.Token ks)
  keyword_row_can ws ks s all = y.yields (subst (λ f. Gives g kinds f (map mark.Token ks)) (sym (outs-Group (keyword_row ws) s)) (y.grouped (row_can ws ks all)))
