-- The regular expression of a terminal, as text: the least relation with these cases.
-- Held against the Langium documentation, "Grammar language: terminal rules", with its EBNF forms.
use Rattle.std.specs.Prelude.{ℕ, ◌≡◌, ◌≤◌, ◌==◌, List, [], ◌∷◌, ◌++◌, true, codes, if◌then◌else◌, encode_utf8_all, Option, Some, None}
use Rattle.std.specs.Fmt.{digits}
use Rattle.std.specs.Str.{chars}
use Rattle.regex.specs.Patterns.{escaped_text}
use Rattle.lw_base.specs.declared.token.Span.{Span}
use Rattle.lw_grammar.specs.declared.grammar.Grammar.{Grammar}
use Rattle.lw_grammar.specs.declared.terminal.Terminal.{Terminal}
use Rattle.lw_grammar.specs.declared.terminal.TermElement.{TermElement, out-TermElement}
use Rattle.lw_grammar.specs.declared.terminal.TermElement.TheOpen.{TermElement-F, Literal, Range, Pattern, Call, Group, Choice, Maybe, Many, Some1}
use Rattle.lw_grammar.specs.Named.{IsTerminal}

-- The text between the slashes with each `\/` turned into `/`, read pair by pair from the left: 92 is the backslash, 47 the slash.
abbrev pub unescaped : List ℕ → List ℕ
unescaped [] = []
unescaped (a ∷ []) = a ∷ []
unescaped (a ∷ b ∷ rest) =
    if a == 92 then (if b == 47 then 47 ∷ unescaped rest else a ∷ b ∷ unescaped rest) else a ∷ unescaped (b ∷ rest)

-- p in a group of its own that captures nothing
abbrev pub grouped : List ℕ → List ℕ
grouped p = codes "(?:" ++ p ++ codes ")"

-- a text that stands for itself, as regex's `escape` writes it
abbrev pub escaped : List ℕ → List ℕ
escaped text = encode_utf8_all (escaped_text (chars text))

-- a character by its number in upper-case hexadecimal without leading zeros
abbrev pub by_number : ℕ → List ℕ
by_number c = codes "\\x{" ++ digits 16 true c ++ codes "}"

-- the one regular expression, the parts of a row and the alternatives that an element is, where it is that
abbrev pub as_pattern : TermElement-F TermElement → Option (List ℕ)
as_pattern (Pattern text s) = Some text
as_pattern _ = None

abbrev pub as_row : TermElement-F TermElement → Option (List TermElement)
as_row (Group parts) = Some parts
as_row _ = None

abbrev pub as_choice : TermElement-F TermElement → Option (List TermElement)
as_choice (Choice parts) = Some parts
as_choice _ = None

module _ (g : Grammar) where
  mutual
    -- a terminal: one that is a regular expression and nothing else is the bare text between its slashes, and a row or a
    -- choice that is a whole body stands without a group of its own
    pub data TerminalPattern : Terminal → List ℕ → Type 0 where
      bare : {t : Terminal} {text : List ℕ} → as_pattern (out-TermElement t.body) ≡ Some text → TerminalPattern t (unescaped text)
      alternatives : {t : Terminal} {p : List ℕ} (parts : List TermElement) → as_choice (out-TermElement t.body) ≡ Some parts → ChoicePattern parts p →
          TerminalPattern t p
      other : {t : Terminal} {p : List ℕ} → as_pattern (out-TermElement t.body) ≡ None → as_choice (out-TermElement t.body) ≡ None →
          AlternativePattern t.body p → TerminalPattern t p

    -- an element that is a part of a row, or that a mark stands behind
    pub data ElementPattern : TermElement → List ℕ → Type 0 where
      element : {e : TermElement} {p : List ℕ} → LayerPattern (out-TermElement e) p → ElementPattern e p

    pub data LayerPattern : TermElement-F TermElement → List ℕ → Type 0 where
      literal : {text : List ℕ} {s : Span} → LayerPattern (Literal text s) (escaped text)
      range : {from to : List ℕ} {s : Span} (first last : ℕ) → chars from ≡ first ∷ [] → chars to ≡ last ∷ [] → first ≤ last →
          LayerPattern (Range from to s) (codes "[" ++ by_number first ++ codes "-" ++ by_number last ++ codes "]")
      pattern : {text : List ℕ} {s : Span} → LayerPattern (Pattern text s) (grouped (unescaped text))
      call : {name : List ℕ} {s : Span} {p : List ℕ} (t : ℕ) (called : Terminal) → IsTerminal g name t called → TerminalPattern called p →
          LayerPattern (Call name s) (grouped p)
      group : {parts : List TermElement} {p : List ℕ} → RowPattern parts p → LayerPattern (Group parts) (grouped p)
      choice : {parts : List TermElement} {p : List ℕ} → ChoicePattern parts p → LayerPattern (Choice parts) (grouped p)
      maybe : {part : TermElement} {p : List ℕ} → ElementPattern part p → LayerPattern (Maybe part) (grouped p ++ codes "?")
      many : {part : TermElement} {p : List ℕ} → ElementPattern part p → LayerPattern (Many part) (grouped p ++ codes "*")
      some1 : {part : TermElement} {p : List ℕ} → ElementPattern part p → LayerPattern (Some1 part) (grouped p ++ codes "+")

    -- parts in a row, joined with nothing
    pub data RowPattern : List TermElement → List ℕ → Type 0 where
      empty_row : RowPattern [] []
      row_part : {part : TermElement} {parts : List TermElement} {p q : List ℕ} → ElementPattern part p → RowPattern parts q → RowPattern (part ∷ parts) (p ++ q)

    -- alternatives, joined with `|`
    pub data ChoicePattern : List TermElement → List ℕ → Type 0 where
      last_choice : {part : TermElement} {p : List ℕ} → AlternativePattern part p → ChoicePattern (part ∷ []) p
      next_choice : {part : TermElement} {parts : List TermElement} {p q : List ℕ} → AlternativePattern part p → ChoicePattern parts q →
          ChoicePattern (part ∷ parts) (p ++ codes "|" ++ q)

    -- an alternative: a row stands without a group of its own
    pub data AlternativePattern : TermElement → List ℕ → Type 0 where
      row : {e : TermElement} {p : List ℕ} (parts : List TermElement) → as_row (out-TermElement e) ≡ Some parts → RowPattern parts p → AlternativePattern e p
      single : {e : TermElement} {p : List ℕ} → as_row (out-TermElement e) ≡ None → ElementPattern e p → AlternativePattern e p
