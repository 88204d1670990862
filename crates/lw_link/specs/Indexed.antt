-- When an index holds what the documents of some trees export, and where an answer leads.
-- Held against Langium, "Scoping": the index manager has the descriptions of all nodes that documents export.
use Rattle.std.specs.Prelude.{ℕ, ◌≡◌, ◌↔◌, List, [], Contains, Option, Some, None}
use Rattle.std.specs.FinMap.{get}
use Rattle.std.specs.Option.{option_map_or}
use Rattle.lw_tree.specs.Parts.{Parts}
use Rattle.lw_scoping.specs.Links.{Link, Trees}
use Rattle.lw_scoping.specs.Symbols.{exports, IsNamedNode}
use Rattle.lw_index.specs.declared.parts.Answer.{Answer}
use Rattle.lw_index.specs.declared.parts.Answer.TheVariants.{Found, Missing}
use Rattle.lw_index.specs.declared.parts.Document.{Document}
use Rattle.lw_index.specs.declared.parts.Export.{Export}
use Rattle.lw_index.specs.declared.parts.Target.{Target}
use Rattle.lw_index.specs.Exported.{export_of}
use Rattle.lw_index.specs.Indexed.{Indexed}

-- exactly what a document with this tree exports, each node by its name and with its type
abbrev pub AreEntriesOf : Parts → List Export → Type 0
AreEntriesOf tree entries = (name : List ℕ) (type node : ℕ) → Contains entries (export_of name type node) ↔ (Contains (exports tree) node × IsNamedNode tree node name type)

-- nothing where the document has no tree
pub data AreEntriesAt : Option Parts → List Export → Type 0 where
  treeless : AreEntriesAt None []
  whole : {tree : Parts} {entries : List Export} → AreEntriesOf tree entries → AreEntriesAt (Some tree) entries

-- The documents of an index have these trees by their addresses, and what each exports is what is held of it. Each document that has a tree is held,
-- under one number.
pub record IsIndexOf (trees : Trees) (index : Indexed) : Type 0 where
  pub entries : (doc : ℕ) (d : Document) → get index doc ≡ Some d → AreEntriesAt (trees d.uri) d.exports
  pub held : (address : List ℕ) (tree : Parts) → trees address ≡ Some tree → (doc : ℕ) × (d : Document) × (get index doc ≡ Some d) × (d.uri ≡ address)
  pub apart : (doc other : ℕ) (d e : Document) → get index doc ≡ Some d → get index other ≡ Some e → d.uri ≡ e.uri → doc ≡ other

-- the document of this number is held, at the address, and has the tree
pub record IsDocumentOf (trees : Trees) (index : Indexed) (doc : ℕ) (address : List ℕ) (tree : Parts) : Type 0 where
  pub document : Document
  pub there : get index doc ≡ Some document
  pub here : document.uri ≡ address
  pub is_tree : trees address ≡ Some tree

-- the address of a document by its number
abbrev pub address_in : Indexed → ℕ → List ℕ
address_in index doc = option_map_or (λ d. d.uri) (get index doc) []

-- where an answer leads: to an address and a node, or nowhere
abbrev pub link_of : Indexed → Answer → Link
link_of index (Found target) = Some (address_in index target.doc.0, target.node.0)
link_of index Missing = None

-- what an answer leads into is a document that the index holds
pub data LeadsIntoHeld (index : Indexed) : Answer → Type 0 where
  found : {target : Target} → (document : Document) → get index target.doc.0 ≡ Some document → LeadsIntoHeld index (Found target)
  missing : LeadsIntoHeld index Missing
