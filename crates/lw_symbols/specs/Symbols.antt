-- The symbols of a tree by what they are looked up by, and their order.
-- Held against the definition of the symbols of a node; the order is that of the numbers of their names, their containers, types and nodes.
use Rattle.std.specs.Prelude.{ℕ, ◌≡◌, ◌≤◌, ◌<◌, ◌↔◌, List, Some, Contains, length, slice_get, slice_index_or}
use Rattle.lw_base.specs.declared.token.Span.{Span}
use Rattle.lw_tree.specs.declared.node.Node.{Node}
use Rattle.lw_tree.specs.Parts.{Parts, name_of}
use Rattle.lw_symbols.specs.declared.symbol.Symbol.{Symbol}
use Rattle.lw_symbols.specs.Hashes.{name_hash}

-- a named node of the tree, with its container
pub record IsSymbolOf (tree : Parts) (s : Symbol) : Type 0 where
  pub node : Node
  pub there : slice_get tree.nodes s.node.0 ≡ Some node
  pub within : node.container ≡ Some s.container
  pub typed : node.type_id ≡ s.type_id
  pub name : List ℕ
  pub span : Span
  pub named : name_of tree s.node.0 ≡ Some (name, span)
  pub hashed : s.hash ≡ name_hash name

-- the one symbol stands before the other or is the same
pub record StandsUpTo (one other : Symbol) : Type 0 where
  pub hash : one.hash ≤ other.hash
  pub container : one.hash ≡ other.hash → one.container.0 ≤ other.container.0
  pub type_ : one.container.0 ≡ other.container.0 → one.hash ≡ other.hash → one.type_id.0 ≤ other.type_id.0
  pub node : one.container.0 ≡ other.container.0 → one.hash ≡ other.hash → one.type_id.0 ≡ other.type_id.0 → one.node.0 ≤ other.node.0

abbrev pub AreSymbolsSorted : List Symbol → Type 0
AreSymbolsSorted symbols = (i j : ℕ) (d : Symbol) → i ≤ j → j < length symbols → StandsUpTo (slice_index_or symbols i d) (slice_index_or symbols j d)

-- all symbols of a tree, in their order
pub record AreSymbolsOf (tree : Parts) (symbols : List Symbol) : Type 0 where
  pub ordered : AreSymbolsSorted symbols
  pub exact : (s : Symbol) → Contains symbols s ↔ IsSymbolOf tree s

-- all symbols of a tree that are among its first so many nodes
abbrev pub AreAmongFirst : Parts → ℕ → List Symbol → Type 0
AreAmongFirst tree count symbols = (s : Symbol) → Contains symbols s ↔ ((s.node.0 < count) × IsSymbolOf tree s)
