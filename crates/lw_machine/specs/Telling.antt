-- Grammars whose subtypes are told: of two types one can say whether the one is the other or below it.
-- Held against the Langium documentation, "Semantic model": a reference takes what is of its type or of a type below it.
use Rattle.std.specs.Prelude.{ℕ, ◌⊎◌}
use Rattle.lw_grammar.specs.declared.grammar.Grammar.{Grammar}
use Rattle.lw_link_rules.specs.Links.{IsNumberBelow}

-- for the types of any two numbers
abbrev pub TellsTypes : Grammar → Type 0
TellsTypes g = (low high : ℕ) → IsNumberBelow g low high ⊎ (¬ IsNumberBelow g low high)
