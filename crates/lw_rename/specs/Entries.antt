-- The index of what all documents export once some were read again.
use Rattle.std.specs.Prelude.{ℕ, ◌≡◌, ◌<◌, List, Option, Some, IfSome, length, slice_get}
use Rattle.std.specs.FinMap.{get}
use Rattle.lw_index.specs.Indexed.{Indexed}
use Rattle.lw_index.specs.declared.parts.Document.{Document}
use Rattle.lw_link.specs.Indexed.{AreEntriesAt}
use Rattle.lw_query.specs.Built.{tree_seen}
use Rattle.lw_query.specs.declared.view.View.{View}
use Rattle.lw_tree.specs.Parts.{Parts}
use Rattle.lw_rename.specs.Afterwards.{StandsWith, later}

abbrev pub HasRoot : Option Parts → Type 0
HasRoot tree = IfSome tree (λ tree. 0 < length tree.nodes)

module _ (views : List View) (trees : List (Option Parts)) where
  abbrev pub AreRooted : Type 0
  AreRooted = (k : ℕ) (v : View) (t : Option Parts) → StandsWith views trees k v t → HasRoot (later t (tree_seen v))

  -- a document of the index is one of the first so many
  pub record IsEnteredFor (count doc : ℕ) (d : Document) : Type 0 where
    pub place : ℕ
    pub below : place < count
    pub v : View
    pub t : Option Parts
    pub among : StandsWith views trees place v t
    pub number : v.doc.0 ≡ doc
    pub address : d.uri ≡ v.uri.now
    pub entries : AreEntriesAt (later t (tree_seen v)) d.exports

  -- the index holds what the first so many documents export, and nothing else
  pub record IsIndexAfter (count : ℕ) (index : Indexed) : Type 0 where
    pub entered : (doc : ℕ) (d : Document) → get index doc ≡ Some d → IsEnteredFor count doc d
    pub held : (k : ℕ) (v : View) → k < count → slice_get views k ≡ Some v → (d : Document) × (get index v.doc.0 ≡ Some d) × (d.uri ≡ v.uri.now)
