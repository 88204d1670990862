-- What the graph of types holds, in words of the code.
use Rattle.std.specs.Prelude.{ℕ, ◌≡◌, ◌+◌, ◌<◌, ◌≤◌, ◌↔◌, length, bytes_eq}
use Rattle.std.specs.List.{IsDistinct}
use Rattle.lw_grammar.specs.declared.grammar.Grammar.{Grammar}
use Rattle.lw_graph.specs.Walks.{HasEdge}
use Rattle.lw_numbers.specs.declared.subtypes.kinship.Kinship.{Kinship}
use Rattle.lw_numbers.specs.Kin.{Kin, OfType, OfBody, LeadsUp, Placed}
use Rattle.lw_numbers.specs.Lists.{PutsEdges}
use Rattle.lw_numbers.specs.Spoken.{AreNames}

-- there is a node for each name and for each rule
pub record HasRoomYet (g : Grammar) (kinship : Kinship) : Type 0 where
  pub few : length g.rules ≤ 65535
  pub nodes : kinship.graph.nodes ≡ length kinship.names.keys + length g.rules

abbrev pub HasRoomForNames : Kinship → Type 0
HasRoomForNames kinship = length kinship.names.keys ≤ kinship.graph.nodes

abbrev pub HasRoomFor : Kinship → Kin → Type 0
HasRoomFor kinship (OfType name) = HasRoomForNames kinship
HasRoomFor kinship (OfBody r) = (r ≤ 65535) × (length kinship.names.keys + r < kinship.graph.nodes)

-- these edges were put in
pub record PutsKin (put : Kin → Kin → Type 0) (old new : Kinship) : Type 0 where
  pub names_stay : new.names.keys ≡ old.names.keys
  pub edges_put : PutsEdges (Placed old.names.keys put) old.graph new.graph

-- the names that the grammar speaks of, and all edges
pub record IsKinship (g : Grammar) (kinship : Kinship) : Type 0 where
  pub names : AreNames g kinship.names.keys
  pub distinct : IsDistinct bytes_eq kinship.names.keys
  pub nodes : length kinship.names.keys ≤ kinship.graph.nodes
  pub edges : (a b : ℕ) → HasEdge kinship.graph a b ↔ Placed kinship.names.keys (LeadsUp g) a b
