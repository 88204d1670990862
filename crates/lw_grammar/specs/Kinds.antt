-- The kinds of tokens of a grammar, in their order: first the keywords of the rules that can be reached, in load order and
-- then by the place of their first use, then the terminals that are hidden or that a reached rule calls, by load order and place.
use Rattle.std.specs.Prelude.{ℕ, ◌≡◌, ◌+◌, List, [], ◌∷◌, Some, true, false, length, slice_get, bytes_eq, if◌then◌else◌}
use Rattle.std.specs.List.{flat_map, list_any}
use Rattle.lw_grammar.specs.declared.grammar.Grammar.{Grammar}
use Rattle.lw_grammar.specs.declared.rule.Rule.{Rule}
use Rattle.lw_grammar.specs.declared.terminal.Terminal.{Terminal}
use Rattle.lw_grammar.specs.Named.{IsFirst, IsTerminal}
use Rattle.lw_grammar.specs.Leaves.{keywords_in}
use Rattle.lw_grammar.specs.Reached.{IsReached, RuleCalls}
use Rattle.lw_grammar.specs.Kept.{KeepsPassing}

pub record Kinds : Type 0 where
  pub keywords : List (List ℕ)
  pub terminals : List Terminal

-- the texts, each at its first place alone
abbrev pub first_uses : List (List ℕ) → List (List ℕ) → List (List ℕ)
first_uses seen [] = []
first_uses seen (text ∷ texts) = if list_any (bytes_eq text) seen then first_uses seen texts else text ∷ first_uses (text ∷ seen) texts

module _ (g : Grammar) where
  -- by its place among the terminals: it is no fragment, and it is hidden or a reached rule calls it
  pub data IsKindTerminal (t : ℕ) : Type 0 where
    hidden : (terminal : Terminal) → slice_get g.terminals t ≡ Some terminal → terminal.is_fragment ≡ false → terminal.is_hidden ≡ true → IsKindTerminal t
    called : (terminal : Terminal) (name : List ℕ) (r : ℕ) (rule : Rule) → IsTerminal g name t terminal → terminal.is_fragment ≡ false →
        IsReached g r → slice_get g.rules r ≡ Some rule → RuleCalls g rule name → IsKindTerminal t

  -- these are the kinds of the grammar
  pub record AreKinds (kinds : Kinds) : Type 0 where
    pub rules : List Rule
    pub reached : KeepsPassing (IsReached g) g.rules rules
    pub keywords : kinds.keywords ≡ first_uses [] (flat_map (λ rule. keywords_in rule.body) rules)
    pub terminals : KeepsPassing IsKindTerminal g.terminals kinds.terminals

-- the number of the kind that a keyword has
abbrev pub IsKeywordKind : Kinds → List ℕ → ℕ → Type 0
IsKeywordKind kinds text k = slice_get kinds.keywords k ≡ Some text

-- the number of the kind of the terminal that a name means: terminals come after the keywords
pub record IsTerminalKind (g : Grammar) (kinds : Kinds) (name : List ℕ) (k : ℕ) : Type 0 where
  pub place : ℕ
  pub terminal : Terminal
  pub meant : IsTerminal g name place terminal
  pub number : ℕ
  pub kept : IsFirst (λ other. other ≡ terminal) kinds.terminals number terminal
  pub behind : k ≡ length kinds.keywords + number

-- how many kinds there are
abbrev pub kind_count : Kinds → ℕ
kind_count kinds = length kinds.keywords + length kinds.terminals
