-- What a text with a tree was read as, by the kinds and the lexicon of the grammar.
use Rattle.std.proofs.Common.{◌≡◌, ℕ, List, Some, Contains, slice_get, sym, ap, subst, ◌∙◌}
use Rattle.std.proofs.lemmas.Option.{get_or_from_slice_get, slice_get-get_or, slice_get_within}
use Rattle.lw_base.specs.declared.token.Token.{Token}
use Rattle.lw_grammar.specs.declared.grammar.Grammar.{Grammar}
use Rattle.lw_grammar.specs.Kinds.{AreKinds, Kinds}
use Rattle.lw_grammar.proofs.KindLemmas.{one_kinds}
use Rattle.lw_reading.specs.Trees.{IsTree}
use Rattle.lw_reading.specs.Laws.{IsReadOneWay}
use Rattle.lw_reading.specs.Reading.{Reads, ReadsBy}
use Rattle.lw_reading.specs.Reading as reading
use Rattle.lw_reading.specs.declared.parsed.Parsed.TheVariants.{Whole}
use Rattle.lw_reading.proofs.OneKinds.{can_be_told_apart}
use Rattle.lw_grammar.specs.Marks.{Mark, kinds_of}
use Rattle.lw_grammar.specs.Sentences.{IsSentence}
use Rattle.lw_tokens.specs.Cut.{IsCut, kinds, visible}
use Rattle.lw_tokens.specs.Keywords.{AreKeywords}
use Rattle.lw_tokens.specs.Lexicon.{IsLexicon, Lexicon}
use Rattle.lw_tokens.proofs.OnePattern.{one_lexicon}
use Rattle.lw_tree.specs.Parts.{Parts}

pub told_apart : (g : Grammar) (of : Kinds) (lexicon : Lexicon) → IsReadOneWay g → AreKinds g of → IsLexicon g of lexicon → AreKeywords lexicon.keywords
told_apart g of lexicon one_way are is = subst AreKeywords (sym is.keywords) (can_be_told_apart g of one_way.keywords are)

-- ---- elements and their places

pub place_of : {X : Type 0} (xs : List X) (x : X) → Contains xs x → (i : ℕ) × (slice_get xs i ≡ Some x)
place_of xs x (i, inside, is) = (i, slice_get-get_or xs i x inside ∙ ap Some is)

pub among : {X : Type 0} (xs : List X) (x : X) (i : ℕ) → slice_get xs i ≡ Some x → Contains xs x
among xs x i at = (i, slice_get_within xs i x at, get_or_from_slice_get xs i x x at)

-- ---- readings

module _ (g : Grammar) (of : Kinds) (lexicon : Lexicon) (text : List ℕ) (tree : Parts) where
  -- the tokens and the sentence of which this is the tree
  pub record IsReadSo : Type 0 where
    pub tokens : List Token
    pub marks : List Mark
    pub cut : IsCut lexicon text tokens
    pub sentence : IsSentence g of marks
    pub kinds_are : kinds_of marks ≡ kinds (visible tokens)
    pub is_tree : IsTree g text marks (visible tokens) tokens tree

  by_these : ReadsBy g of lexicon text (Whole tree) → IsReadSo
  by_these (reading.whole tokens m is sentence same tree_is) =
      record { tokens = tokens; marks = m; cut = is; sentence = sentence; kinds_are = same; is_tree = tree_is }

  pub read_so : AreKinds g of → IsLexicon g of lexicon → Reads g text (Whole tree) → IsReadSo
  read_so are is (reading.read others other short were was reads) =
      let same : others ≡ of = one_kinds g others of were are in
      by_these
      (subst (λ (l : Lexicon). ReadsBy g of l text (Whole tree)) (one_lexicon g of other lexicon (subst (λ (k : Kinds). IsLexicon g k other) same was) is)
      (subst (λ (k : Kinds). ReadsBy g k other text (Whole tree)) same reads))
