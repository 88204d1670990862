-- Grammars of which each choice in a terminal has a part, and no rule stands where a terminal stands. Where a choice has none, there is no
-- alternative that a pattern could be of; where a rule and a terminal of one name stand at one place, the name means neither.
use Rattle.std.specs.Prelude.{ℕ, ◌≡◌, List, [], ◌∷◌, Contains, length}
use Rattle.std.specs.List.{flat_map}
use Rattle.lw_grammar.specs.declared.grammar.Grammar.{Grammar}
use Rattle.lw_grammar.specs.declared.rule.Rule.{Rule}
use Rattle.lw_grammar.specs.declared.terminal.Terminal.{Terminal}
use Rattle.lw_grammar.specs.declared.terminal.TermElement.{TermElement, fold-TermElement}
use Rattle.lw_grammar.specs.declared.terminal.TermElement.TheOpen.{TermElement-F, Literal, Range, Pattern, Call, Group, Choice, Maybe, Many, Some1}

-- how many parts each choice has, the choices in the order of the text
abbrev pub layer_choices : TermElement-F (List ℕ) → List ℕ
layer_choices (Literal text s) = []
layer_choices (Range first last s) = []
layer_choices (Pattern text s) = []
layer_choices (Call name s) = []
layer_choices (Group parts) = flat_map (λ sizes. sizes) parts
layer_choices (Choice parts) = length parts ∷ flat_map (λ sizes. sizes) parts
layer_choices (Maybe part) = part
layer_choices (Many part) = part
layer_choices (Some1 part) = part

abbrev pub choices : TermElement → List ℕ
choices = fold-TermElement (List ℕ) layer_choices

pub record IsWellFormed (g : Grammar) : Type 0 where
  pub no_empty_choice : (t : Terminal) → Contains g.terminals t → ¬ Contains (choices t.body) 0
  pub apart : (rule : Rule) (t : Terminal) → Contains g.rules rule → Contains g.terminals t → ¬ ((rule.file ≡ t.file) × (rule.span.start ≡ t.span.start))
