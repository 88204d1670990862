-- Which terminals leaves call, and which of them are marked, in words of the code.
use Rattle.std.specs.Prelude.{ℕ, ◌≡◌, ◌⊎◌, ◌↔◌, List, Bool, Contains, length}
use Rattle.lw_grammar.specs.declared.grammar.Grammar.{Grammar}
use Rattle.lw_grammar.specs.declared.rule.Rule.{Rule}
use Rattle.lw_grammar.specs.declared.terminal.Terminal.{Terminal}
use Rattle.lw_grammar.specs.Leaves.{Leaf, Call, Assign, ValueLeaf, Literal, Calls, Cross, value_leaves}
use Rattle.lw_grammar.specs.Named.{IsTerminal}
use Rattle.lw_grammar.specs.Reached.{IsReached, RuleCalls}
use Rattle.lw_graph.specs.Walks.{HasNode}
use Rattle.lw_kinds.specs.Crossing.{IsReadBy}

module _ (g : Grammar) where
  -- the part of a value calls the rule or terminal of this name
  abbrev pub PartCallsName : ValueLeaf → List ℕ → Type 0
  PartCallsName (Literal text s) name = ⊥
  PartCallsName (Calls called s) name = called ≡ name
  PartCallsName (Cross wanted rule s) name = IsReadBy g wanted rule name

  -- the leaf does, assigned or not
  abbrev pub LeafCallsName : Leaf → List ℕ → Type 0
  LeafCallsName (Call called s) name = called ≡ name
  LeafCallsName (Assign p op v s) name = (part : ValueLeaf) × Contains (value_leaves v) part × PartCallsName part name
  LeafCallsName _ name = ⊥

  -- a name that is so means the terminal of this place
  abbrev pub IsTerminalSo : (List ℕ → Type 0) → ℕ → Type 0
  IsTerminalSo is_so t = (name : List ℕ) × is_so name × (terminal : Terminal) × IsTerminal g name t terminal

  -- one of these calls the terminal of this place
  abbrev pub PartsCallTerminal : List ValueLeaf → ℕ → Type 0
  PartsCallTerminal parts t = (part : ValueLeaf) × Contains parts part × IsTerminalSo (PartCallsName part) t

  abbrev pub LeavesCallTerminal : List Leaf → ℕ → Type 0
  LeavesCallTerminal ls t = (leaf : Leaf) × Contains ls leaf × IsTerminalSo (LeafCallsName leaf) t

  -- the rule of this number is reached, and calls the terminal of this place
  abbrev pub RuleMarks : ℕ → Rule → ℕ → Type 0
  RuleMarks r rule t = IsReached g r × IsTerminalSo (RuleCalls g rule) t

-- exactly those that are so were marked
pub record Marks (is_so : ℕ → Type 0) (old new : List Bool) : Type 0 where
  pub size : length new ≡ length old
  pub exact : (t : ℕ) → HasNode new t ↔ (HasNode old t ⊎ is_so t)
