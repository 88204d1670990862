-- The first export of a name among those whose type is wanted: by the bytes of URIs, then by the numbers of nodes. Held against Langium, "Scoping": the global scope is looked through once the local ones have nothing, and the first description that fits counts. That documents go in the order of their URIs is this profile's.
use Rattle.std.specs.Prelude.{◌≡◌, ℕ, List, IsTrue, false}
use Rattle.std.specs.Ordering.{nat_cmp, ordering_then, is_gt}
use Rattle.std.specs.Cmp.Lexicographic.{slice_cmp}
use Rattle.std.specs.FinSet as set
use Rattle.lw_index.specs.declared.parts.Document.{Document}
use Rattle.lw_index.specs.declared.parts.Target.{Target}
use Rattle.lw_index.specs.Indexed.{Indexed}
use Rattle.lw_index.specs.Exported.{IsExported}

-- the first of two nodes, each by the URI of its document and its own number, does not come behind the second
abbrev pub IsNotBehind : (List ℕ × ℕ) → (List ℕ × ℕ) → Type 0
IsNotBehind a b = is_gt (ordering_then (slice_cmp nat_cmp a.0 b.0) (nat_cmp a.1 b.1)) ≡ false

module _ (index : Indexed) (name : List ℕ) (types : set.FinSet nat_cmp) where
  -- an export of the name whose type is wanted
  pub record IsWanted (doc : ℕ) (document : Document) (node : ℕ) : Type 0 where
    pub type : ℕ
    pub wanted : IsTrue (set.contains types type)
    pub exported : IsExported index name type doc document node

  pub record IsFirstExport (target : Target) : Type 0 where
    pub document : Document
    pub wanted : IsWanted target.doc.0 document target.node.0
    pub first : (doc : ℕ) (other : Document) (node : ℕ) → IsWanted doc other node → IsNotBehind (document.uri, target.node.0) (other.uri, node)

  abbrev pub NoneWanted : Type 0
  NoneWanted = (doc : ℕ) (document : Document) (node : ℕ) → ¬ (IsWanted doc document node)
