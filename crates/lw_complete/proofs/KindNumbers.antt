-- How many kinds there are, and which of them are keywords.
use Rattle.std.proofs.Common.{ℕ, ◌≡◌, List, length, refl, ap, ◌∙◌}
use Rattle.std.proofs.lemmas.List.{length-append, length-map}
use Rattle.lw_grammar.specs.declared.grammar.Grammar.{Grammar}
use Rattle.lw_grammar.specs.Kinds.{AreKinds, Kinds, kind_count}
use Rattle.lw_grammar.specs.KindTexts.{AreKindTexts, texts_of}
use Rattle.lw_tokens.specs.Lexicon.{IsLexicon, Lexicon}
use Rattle.lw_grammar.proofs.KindLemmas.{one_kinds}

pub counted : (g : Grammar) (of : Kinds) (texts : List (List ℕ)) → AreKinds g of → AreKindTexts g texts → length texts ≡ kind_count of
counted g of texts are (others, others_are, is) =
    ap length (is ∙ ap texts_of (one_kinds g others of others_are are)) ∙ simp (length-append, length-map) refl

-- the keywords of a lexicon of the grammar are those of its kinds
pub keywords_are : (g : Grammar) (of others : Kinds) (lexicon : Lexicon) → AreKinds g of → AreKinds g others → IsLexicon g others lexicon →
    lexicon.keywords ≡ of.keywords
keywords_are g of others lexicon are were is = is.keywords ∙ ap (λ (kinds : Kinds). kinds.keywords) (one_kinds g others of were are)
