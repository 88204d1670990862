-- The least node of symbols that pass.
-- Held against the first symbol of a node, by the order of numbers.
use Rattle.std.specs.Prelude.{ℕ, ◌≡◌, ◌≤◌, List, Option, Some, None, Contains, nat_le, if◌then◌else◌}
use Rattle.lw_base.specs.declared.token.Span.{Span}
use Rattle.lw_base.specs.declared.numbers.NodeId.{NodeId}
use Rattle.lw_tree.specs.Parts.{Parts, name_of}
use Rattle.lw_symbols.specs.declared.symbol.Symbol.{Symbol}

pub data IsLeastSymbol (passes : Symbol → Type 0) (symbols : List Symbol) : Option NodeId → Type 0 where
  least : {n : NodeId} (s : Symbol) → s.node ≡ n → Contains symbols s → passes s → ((other : Symbol) → Contains symbols other → passes other → n.0 ≤ other.node.0) →
      IsLeastSymbol passes symbols (Some n)
  absent : ((s : Symbol) → Contains symbols s → ¬ passes s) → IsLeastSymbol passes symbols None

-- among the symbols of one container whose names have one number
abbrev pub IsInGroup : ℕ → ℕ → Symbol → Type 0
IsInGroup container hash s = (s.container.0 ≡ container) × (s.hash ≡ hash)

-- and of one type
abbrev pub IsInRun : Symbol → Symbol → Type 0
IsInRun run s = IsInGroup run.container.0 run.hash s × (s.type_id.0 ≡ run.type_id.0)

abbrev pub IsCalled : Parts → List ℕ → Symbol → Type 0
IsCalled tree name s = (span : Span) × (name_of tree s.node.0 ≡ Some (name, span))

-- called so, and of a type that is wanted
abbrev pub IsWantedSymbol : Parts → List ℕ → (ℕ → Type 0) → Symbol → Type 0
IsWantedSymbol tree name wanted s = IsCalled tree name s × wanted s.type_id.0

-- of two nodes the lesser
abbrev pub lesser_node : Option NodeId → Option NodeId → Option NodeId
lesser_node None other = other
lesser_node (Some n) None = Some n
lesser_node (Some n) (Some other) = if nat_le n.0 other.0 then Some n else Some other
