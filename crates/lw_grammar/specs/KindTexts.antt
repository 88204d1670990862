-- How messages name the kinds: a keyword by its text in single quotes, a terminal by its name.
use Rattle.std.specs.Prelude.{ℕ, ◌≡◌, List, ◌++◌, Some, map, slice_get, codes}
use Rattle.lw_grammar.specs.declared.grammar.Grammar.{Grammar}
use Rattle.lw_grammar.specs.Kinds.{Kinds, AreKinds}

abbrev pub quoted : List ℕ → List ℕ
quoted text = codes "'" ++ text ++ codes "'"

abbrev pub texts_of : Kinds → List (List ℕ)
texts_of of = map quoted of.keywords ++ map (λ terminal. terminal.name) of.terminals

-- the texts of the grammar's kinds, in their order
abbrev pub AreKindTexts : Grammar → List (List ℕ) → Type 0
AreKindTexts g texts = (of : Kinds) × AreKinds g of × (texts ≡ texts_of of)

-- the text of one kind
abbrev pub IsKindText : Grammar → ℕ → List ℕ → Type 0
IsKindText g k text = (texts : List (List ℕ)) × AreKindTexts g texts × (slice_get texts k ≡ Some text)
