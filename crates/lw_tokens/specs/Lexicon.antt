-- What the tokens of a grammar are cut by: its keywords, and its terminals' patterns, in the order of kinds.
use Rattle.std.specs.Prelude.{ℕ, ◌≡◌, List, Bool}
use Rattle.std.specs.List.{AllZip}
use Rattle.lw_grammar.specs.declared.grammar.Grammar.{Grammar}
use Rattle.lw_grammar.specs.declared.terminal.Terminal.{Terminal}
use Rattle.lw_grammar.specs.Kinds.{Kinds}
use Rattle.lw_tokens.specs.Patterns.{TerminalPattern}

-- a terminal's pattern, and whether the parser skips its tokens
pub record TerminalForm : Type 0 where
  pub pattern : List ℕ
  pub hidden : Bool

pub record Lexicon : Type 0 where
  pub keywords : List (List ℕ)
  pub terminals : List TerminalForm

module _ (g : Grammar) where
  -- the form of a terminal
  pub record HasForm (terminal : Terminal) (form : TerminalForm) : Type 0 where
    pub pattern : TerminalPattern g terminal form.pattern
    pub hidden : form.hidden ≡ terminal.is_hidden

  -- the lexicon of a grammar with these kinds
  pub record IsLexicon (kinds : Kinds) (lexicon : Lexicon) : Type 0 where
    pub keywords : lexicon.keywords ≡ kinds.keywords
    pub terminals : AllZip HasForm kinds.terminals lexicon.terminals
