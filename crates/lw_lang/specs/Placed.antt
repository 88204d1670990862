-- A fault has a place in the text of its file.
use Rattle.std.specs.Prelude.{ℕ, List, [], ◌∷◌}
use Rattle.lw_grammar.specs.declared.fault.GrammarFault.{GrammarFault}
use Rattle.lw_load.specs.Standing.{AreIn}

abbrev pub HasPlace : List (List ℕ) → GrammarFault → Type 0
HasPlace texts f = AreIn texts f.file (f.span ∷ [])
