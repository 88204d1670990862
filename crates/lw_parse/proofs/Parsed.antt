-- The tree of the only sentence.
use Rattle.std.proofs.Common.{◌≡◌, List, [], ◌∷◌, Option, Some, MatchOption, refl, sym, subst}
use Rattle.lw_base.specs.declared.token.Token.{Token}
use Rattle.lw_grammar.specs.declared.fault.GrammarFault.{GrammarFault}
use Rattle.lw_grammar.specs.declared.grammar.Grammar.{Grammar}
use Rattle.lw_grammar.specs.Kinds.{Kinds}
use Rattle.lw_faults.specs.Faults.{IsCheckFault, IsTypeFault}
use Rattle.lw_grammar.specs.Sentences.{IsWhole}
use Rattle.lw_tree.specs.Parts.{Parts}
use Rattle.lw_reading.specs.Brackets.{Root}
use Rattle.lw_reading.specs.Follows.{FollowsMarks, Closes}
use Rattle.lw_reading.specs.Follows as follows
use Rattle.lw_reading.specs.Trees.{IsOpenedTree}
use Rattle.lw_reading.specs.Growing.{GrowsRoot}
use Rattle.lw_reading.proofs.OneTree.{one_follows, one_close}
use Rattle.lw_reading.proofs.Rootable.{is_rootable}
use Rattle.lw_reading.proofs.Sentence.{whole_tree}
use Rattle.lw_program.specs.declared.recipes.mark.TreeMark.{TreeMark}
use Rattle.lw_builder.specs.Built.{visible_of}
use Rattle.lw_parse.specs.Marked.{MeanOnlySentence}
use Rattle.lw_parse.specs.Outcomes.{kinds_seen, IsOnlyTree}

-- what was found for the tokens that were lent is so for the tokens
pub meant_by : {V : Type 0} (g : Grammar) (kinds : Kinds) (lent tokens : List Token) (found : Option V) (marks : V) (items : V → List TreeMark) → found ≡ Some marks →
    lent ≡ tokens → MatchOption found (¬ IsWhole g kinds (kinds_seen lent)) (λ marks. MeanOnlySentence g kinds (kinds_seen lent) (items marks)) →
    MeanOnlySentence g kinds (kinds_seen tokens) (items marks)
meant_by g kinds lent tokens found marks items is same mean =
    subst (λ ts. MeanOnlySentence g kinds (kinds_seen ts) (items marks)) same
    (subst (λ found. MatchOption found (¬ IsWhole g kinds (kinds_seen lent)) (λ marks. MeanOnlySentence g kinds (kinds_seen lent) (items marks))) is mean)

module _ (g : Grammar) (kinds : Kinds) (types : (f : GrammarFault) → ¬ IsTypeFault g f) (checks : (f : GrammarFault) → ¬ IsCheckFault g f) (text : List _)
    (tokens : List Token) {marks : List TreeMark} (mean : MeanOnlySentence g kinds (kinds_seen tokens) marks) where
  -- the marks leave a root
  pub grows_root : GrowsRoot g text mean.sentence (visible_of tokens)
  grows_root = whole_tree g kinds text (is_rootable g types checks) mean.sentence (visible_of tokens) mean.one.sentence (sym mean.one.kinds_are)

  -- the tree that is opened of a whole sentence is its tree
  pub only_tree : {tree : Parts} → IsOpenedTree g text mean.sentence (visible_of tokens) tokens tree → IsOnlyTree g kinds text tokens tree
  only_tree {tree} opened =
      let same : opened.brackets ≡ Root grows_root.0 ∷ [] = one_follows g text opened.follows grows_root.1 refl refl in
      let root : grows_root.0 ≡ opened.grown =
      one_close g text follows.root (subst (λ bs. Closes g text (visible_of tokens) bs opened.grown) same opened.closes) in
      record {
        marks = mean.sentence;
        one = mean.one;
        tree = record {
          grown = opened.grown;
          follows = subst (λ x. FollowsMarks g text mean.sentence (visible_of tokens) (Root x ∷ [])) root grows_root.1;
          named = opened.named;
          parts = opened.parts;
        };
      }
