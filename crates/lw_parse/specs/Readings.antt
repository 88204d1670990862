-- The readings of tokens, and the trees that are opened of them.
-- Held against the textbooks' viable prefixes.
use Rattle.std.specs.Prelude.{ℕ, List, [], ◌∷◌, All, AllPairs, Any}
use Rattle.lw_base.specs.declared.token.Token.{Token}
use Rattle.lw_grammar.specs.declared.grammar.Grammar.{Grammar}
use Rattle.lw_grammar.specs.Kinds.{Kinds}
use Rattle.lw_reading.specs.Trees.{IsOpenedTree}
use Rattle.lw_program.specs.declared.recipes.mark.TreeMark.{TreeMark}
use Rattle.lw_program.specs.Meant.{AreMeant}
use Rattle.lw_grammar.specs.Marks.{Mark, Open}
use Rattle.lw_grammar.specs.Sentences.{IsSentence}
use Rattle.lw_tokens.specs.Cut.{kinds, visible}
use Rattle.lw_tree.specs.Parts.{Parts, SameTables}
use Rattle.lw_viable.specs.ReadSoFar.{IsReadSoFar}

-- `entry` is the number of the entry rule
module _ (g : Grammar) (of : Kinds) (entry : ℕ) where
  -- A reading of tokens of these kinds: a prefix of a sentence that has them and ends with the last one, or with the end of a value directly
  -- behind that one. Of no tokens it is the opening of the entry rule.
  pub data IsReading : List ℕ → List Mark → Type 0 where
    begun : IsReading [] (Open entry ∷ [])
    read : {ks : List ℕ} {m : List Mark} → IsReadSoFar (IsSentence g of) ks m → IsReading ks m

  -- exactly the readings, by marks that mean them
  pub record MeanReadings (ks : List ℕ) (found : List (List TreeMark)) : Type 0 where
    pub each : All (λ (marks : List TreeMark). (m : List Mark) × AreMeant g marks m × IsReading ks m) found
    pub all : (m : List Mark) → IsReading ks m → Any (λ (marks : List TreeMark). AreMeant g marks m) found

  module _ (text : List ℕ) (tokens : List Token) where
    -- the tree is opened of a reading of the visible ones of the tokens
    abbrev pub IsOpenOf : Parts → Type 0
    IsOpenOf tree = (m : List Mark) × IsReading (kinds (visible tokens)) m × IsOpenedTree g text m (visible tokens) tokens tree

    -- exactly the trees that are opened of the readings, each once
    pub record AreOpenTrees (trees : List Parts) : Type 0 where
      pub each : All IsOpenOf trees
      pub all : (m : List Mark) → IsReading (kinds (visible tokens)) m → Any (λ (tree : Parts). IsOpenedTree g text m (visible tokens) tokens tree) trees
      pub once : AllPairs (λ (one other : Parts). ¬ SameTables one other) trees
