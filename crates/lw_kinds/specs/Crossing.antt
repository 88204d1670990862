-- By which name a cross-reference is read, in words of the code.
use Rattle.std.specs.Prelude.{ℕ, ◌≡◌, List, Option, Some, None}
use Rattle.lw_grammar.specs.declared.grammar.Grammar.{Grammar}
use Rattle.lw_grammar.specs.NameRules.{IsNameRule}

-- a cross-reference to this type, with a rule written or none, reads its text by the rule or terminal of this name
abbrev pub IsReadBy : Grammar → List ℕ → Option (List ℕ) → List ℕ → Type 0
IsReadBy g wanted None name = IsNameRule g wanted name
IsReadBy g wanted (Some written) name = written ≡ name
