-- The sentences of a grammar, and the lists of kinds that one begins with.
use Rattle.std.specs.Prelude.{ℕ, ◌≡◌, List, ◌++◌}
use Rattle.lw_grammar.specs.declared.grammar.Grammar.{Grammar}
use Rattle.lw_grammar.specs.declared.rule.Rule.{Rule}
use Rattle.lw_grammar.specs.Named.{IsEntry}
use Rattle.lw_grammar.specs.Kinds.{Kinds}
use Rattle.lw_grammar.specs.Marks.{Mark, kinds_of}
use Rattle.lw_grammar.specs.Yields.{RuleGives}

module _ (g : Grammar) (kinds : Kinds) where
  -- a call of the entry rule gives these marks
  pub record IsSentence (marks : List Mark) : Type 0 where
    pub number : ℕ
    pub rule : Rule
    pub entry : IsEntry g number rule
    pub gives : RuleGives g kinds number rule marks

  -- some sentence's tokens have exactly these kinds
  abbrev pub IsWhole : List ℕ → Type 0
  IsWhole ks = (marks : List Mark) × IsSentence marks × (kinds_of marks ≡ ks)

  -- some sentence's tokens begin with these kinds
  abbrev pub Starts : List ℕ → Type 0
  Starts ks = (rest : List ℕ) × IsWhole (ks ++ rest)
