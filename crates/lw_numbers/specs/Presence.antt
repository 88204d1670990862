-- Whether a name is declared at all, and whether it is declared before a place.
use Rattle.std.specs.Prelude.{ℕ, ◌≡◌, ◌<◌, ◌⊎◌, List, Any, Contains}
use Rattle.lw_grammar.specs.declared.grammar.Grammar.{Grammar}
use Rattle.lw_grammar.specs.Named.{Declaration}

-- a rule or a terminal has this name
abbrev pub HasRule : Grammar → List ℕ → Type 0
HasRule g name = Any (λ rule. rule.name ≡ name) g.rules ⊎ Any (λ terminal. terminal.name ≡ name) g.terminals

-- one of these has the name and stands before the place: in a file that was loaded earlier, or further to the front of this one
abbrev pub IsDeclaredBefore : List Declaration → List ℕ → ℕ → ℕ → Type 0
IsDeclaredBefore space name file start =
    (first : Declaration) × Contains space first × (first.name ≡ name) × ((first.file < file) ⊎ ((first.file ≡ file) × (first.span.start < start)))
