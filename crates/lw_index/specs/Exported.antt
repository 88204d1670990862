-- That a document of an index exports a node by a name and with a type. Held against Langium, "Scoping": a description of an exported node has its name, its type and the place of the node.
use Rattle.std.specs.Prelude.{◌≡◌, ℕ, List, Contains, Some}
use Rattle.std.specs.FinMap as map
use Rattle.lw_index.specs.declared.parts.Document.{Document}
use Rattle.lw_index.specs.declared.parts.Export.{Export}
use Rattle.lw_index.specs.Indexed.{Indexed}

-- the export of these three parts
abbrev pub export_of : List ℕ → ℕ → ℕ → Export
export_of name type node = record { name = name; type_id = record { 0 = type }; node = record { 0 = node } }

pub record IsExported (index : Indexed) (name : List ℕ) (type doc : ℕ) (document : Document) (node : ℕ) : Type 0 where
  pub held : map.get index doc ≡ Some document
  pub export : Contains document.exports (export_of name type node)
