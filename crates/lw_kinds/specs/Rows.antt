-- What is known of the kinds of a grammar: its keywords, each with its first use, and by their places the terminals that are kinds.
use Rattle.std.specs.Prelude.{ℕ, ◌≡◌, ◌↔◌, List, Some, map, slice_get, Contains}
use Rattle.std.specs.List.Sorted.{IsStrictlyIncreasing}
use Rattle.lw_grammar.specs.declared.grammar.Grammar.{Grammar}
use Rattle.lw_grammar.specs.Kinds.{Kinds, AreKinds, IsKindTerminal}
use Rattle.lw_kinds.specs.Uses.{Use, IsFirstUse}

pub record KindRow : Type 0 where
  pub keywords : List Use
  pub terminals : List ℕ

-- these are the grammar's kinds, in their order
pub record AreKindRowOf (g : Grammar) (row : KindRow) : Type 0 where
  pub kinds : Kinds
  pub are : AreKinds g kinds
  pub texts : map (λ word. word.0) row.keywords ≡ kinds.keywords
  pub first : (word : Use) → Contains row.keywords word → IsFirstUse g word
  pub terminals : map (slice_get g.terminals) row.terminals ≡ map Some kinds.terminals
  pub ascending : IsStrictlyIncreasing row.terminals
  pub exact : (t : ℕ) → Contains row.terminals t ↔ IsKindTerminal g t
