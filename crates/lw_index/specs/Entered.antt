-- That the tables of an index hold what its documents export, and nothing else.
use Rattle.std.specs.Prelude.{◌≡◌, ℕ, ◌≤◌, List, Option, Some, Contains, MatchOption}
use Rattle.std.specs.Option.{option_map}
use Rattle.std.specs.Ordering.{nat_cmp}
use Rattle.std.specs.BTreeMap as tree
use Rattle.std.specs.BTreeMap.{BTreeMap}
use Rattle.lw_index.specs.declared.parts.Document.{Document}
use Rattle.lw_index.specs.declared.parts.Target.{Target}
use Rattle.lw_index.specs.Exported.{export_of}
use Rattle.lw_index.specs.Slots.{Names, slot_at, filled}

-- a node of this document, and of those of which something holds the least
pub record IsLeastNode (doc : ℕ) (holds : ℕ → Type 0) (x : Target) : Type 0 where
  pub doc_is : x.doc.0 ≡ doc
  pub here : holds x.node.0
  pub least : (node : ℕ) → holds node → x.node.0 ≤ node

-- a slot holds the least node of a document of which something holds, and is free where there is none
abbrev pub Shows : ℕ → (ℕ → Type 0) → Option Target → Type 0
Shows doc holds found = MatchOption found ((node : ℕ) → ¬ (holds node)) (IsLeastNode doc holds)

pub record AreEntered (documents : BTreeMap ℕ Document) (names : Names) : Type 0 where
  -- at the places of each document stands what it exports
  pub shown : (doc : ℕ) (d : Document) → tree.get nat_cmp documents doc ≡ Some d → (name : List ℕ) (type : ℕ) →
      Shows doc (λ node. Contains d.exports (export_of name type node)) (filled (slot_at names name (type, d.uri)))
  -- nothing stands at a place but of a document of that URI
  pub owned : (name : List ℕ) (type : ℕ) (uri : List ℕ) (x : Target) → filled (slot_at names name (type, uri)) ≡ Some x →
      option_map (λ (d : Document). d.uri) (tree.get nat_cmp documents x.doc.0) ≡ Some uri
  -- documents of one URI are one
  pub apart : (doc other : ℕ) (d e : Document) → tree.get nat_cmp documents doc ≡ Some d → tree.get nat_cmp documents other ≡ Some e → d.uri ≡ e.uri → doc ≡ other
