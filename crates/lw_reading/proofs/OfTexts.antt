-- What is true of the tree of each sentence is true of the tree of each text.
use Rattle.std.proofs.Common.{ℕ, List}
use Rattle.lw_base.specs.declared.token.Token.{Token}
use Rattle.lw_grammar.specs.declared.grammar.Grammar.{Grammar}
use Rattle.lw_grammar.specs.Marks.{Mark}
use Rattle.lw_reading.specs.Trees.{IsTree}
use Rattle.lw_reading.specs.Reading.{Reads}
use Rattle.lw_reading.specs.Reading as reading
use Rattle.lw_reading.specs.declared.parsed.Parsed.TheVariants.{Whole}
use Rattle.lw_tree.specs.Parts.{Parts}

module _ (g : Grammar) (text : List ℕ) where
  -- the marks and the tokens that a tree was made of
  record IsOfMarks (tree : Parts) : Type 0 where
    marks : List Mark
    seen : List Token
    tokens : List Token
    is_tree : IsTree g text marks seen tokens tree

  of_marks : {tree : Parts} → Reads g text (Whole tree) → IsOfMarks tree
  of_marks (reading.read of lexicon short are is (reading.whole tokens m cut sentence kinds tree)) =
      record { marks = m; seen = _; tokens = tokens; is_tree = tree }

  pub of_text : (P : Parts → Type 0) → ((m : List Mark) (seen tokens : List Token) (tree : Parts) → IsTree g text m seen tokens tree → P tree) → (tree : Parts) →
      Reads g text (Whole tree) → P tree
  of_text P each tree reads = let is = of_marks reads in each is.marks is.seen is.tokens tree is.is_tree
