-- A grammar that is accepted: what the files at its root say together, which has no fault and is built.
-- Held against the Langium documentation, "Grammar language"; what is built is this profile's.
use Rattle.std.specs.Prelude.{ℕ, ◌≡◌, List}
use Rattle.lw_grammar.specs.declared.grammar.Grammar as plain
use Rattle.lw_lang.specs.Compiled.{HoldsGrammar, IsClear}
use Rattle.lw_load.specs.Loading.{Files, Loads}
use Rattle.lw_load.specs.declared.loader.Loaded.{Loaded}

-- the files say this grammar, which has no fault, a set of tokens and tables
pub record IsAccepted (files : Files) (path : List ℕ) (k : ℕ) (g : plain.Grammar) : Type 0 where
  pub loaded : Loaded
  pub loads : Loads files path loaded
  pub same : loaded.grammar ≡ g
  pub clear : IsClear g k

-- a grammar is held there, and it is built
pub record HasGrammar (files : Files) (path : List ℕ) (k : ℕ) : Type 0 where
  pub grammar : plain.Grammar
  pub holds : HoldsGrammar files path grammar
  pub clear : IsClear grammar k
