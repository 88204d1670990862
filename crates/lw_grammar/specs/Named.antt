-- What a name means: its first declaration, by load order and place. Rules and terminals share one space of names, interfaces and
-- unions the other. Where a name is declared twice in its space, every use of it means the first.
use Rattle.std.specs.Prelude.{ℕ, ◌≡◌, ◌<◌, ◌⊎◌, List, Some, true, slice_get, Contains}
use Rattle.lw_base.specs.declared.token.Span.{Span}
use Rattle.lw_grammar.specs.declared.grammar.Grammar.{Grammar}
use Rattle.lw_grammar.specs.declared.rule.Rule.{Rule}
use Rattle.lw_grammar.specs.declared.terminal.Terminal.{Terminal}
use Rattle.lw_grammar.specs.declared.declared_types.Interface.{Interface}
use Rattle.lw_grammar.specs.declared.declared_types.UnionDef.{UnionDef}

-- x stands at the place i, and no item before it passes
pub record IsFirst {X : Type 0} (passes : X → Type 0) (xs : List X) (i : ℕ) (x : X) : Type 0 where
  pub there : slice_get xs i ≡ Some x
  pub does : passes x
  pub none_before : (j : ℕ) (y : X) → j < i → slice_get xs j ≡ Some y → ¬ passes y

-- a name that is declared, the number of the file, which is its place in the load order, and where the name stands there
pub record Declaration : Type 0 where
  pub name : List ℕ
  pub file : ℕ
  pub span : Span

-- in a file that was loaded earlier, or further to the front of the same file
abbrev pub StandsBefore : Declaration → Declaration → Type 0
StandsBefore one other = (one.file < other.file) ⊎ ((one.file ≡ other.file) × (one.span.start < other.span.start))

-- x, at the place i, is what the name means: the first item of this name, which stands before each item of this name in the other
-- list of its space
pub record IsMeant {X Y : Type 0} (declared_by : X → Declaration) (other_by : Y → Declaration) (name : List ℕ) (xs : List X) (others : List Y) (i : ℕ)
    (x : X) : Type 0 where
  pub first : IsFirst (λ y. (declared_by y).name ≡ name) xs i x
  pub sooner : (other : Y) → Contains others other → (other_by other).name ≡ name → StandsBefore (declared_by x) (other_by other)

abbrev pub declared_rule : Rule → Declaration
declared_rule rule = record { name = rule.name; file = rule.file; span = rule.span }

abbrev pub declared_terminal : Terminal → Declaration
declared_terminal terminal = record { name = terminal.name; file = terminal.file; span = terminal.span }

abbrev pub declared_interface : Interface → Declaration
declared_interface interface = record { name = interface.name; file = interface.file; span = interface.span }

abbrev pub declared_union : UnionDef → Declaration
declared_union union = record { name = union.name; file = union.file; span = union.span }

-- the rule that a name means, and its number
abbrev pub IsRule : Grammar → List ℕ → ℕ → Rule → Type 0
IsRule g name r rule = IsMeant declared_rule declared_terminal name g.rules g.terminals r rule

-- the terminal that a name means, and its place among the terminals
abbrev pub IsTerminal : Grammar → List ℕ → ℕ → Terminal → Type 0
IsTerminal g name t terminal = IsMeant declared_terminal declared_rule name g.terminals g.rules t terminal

-- the interface that a name means
abbrev pub IsInterface : Grammar → List ℕ → ℕ → Interface → Type 0
IsInterface g name i interface = IsMeant declared_interface declared_union name g.interfaces g.unions i interface

-- the union that a name means
abbrev pub IsUnion : Grammar → List ℕ → ℕ → UnionDef → Type 0
IsUnion g name u union = IsMeant declared_union declared_interface name g.unions g.interfaces u union

-- the entry rule: the first rule of the root file, which is file 0, that is marked as one
abbrev pub IsEntry : Grammar → ℕ → Rule → Type 0
IsEntry g r rule = IsFirst (λ x. (x.is_entry ≡ true) × (x.file ≡ 0)) g.rules r rule
