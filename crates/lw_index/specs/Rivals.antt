-- The rivals of a document: the other documents that export one name with the very type. Held against Langium, "Document lifecycle": a validator asks the index for exports of the same name to find names that are not unique.
use Rattle.std.specs.Prelude.{◌≡◌, ◌≢◌, ℕ, List, false}
use Rattle.std.specs.Ordering.{nat_cmp, is_gt}
use Rattle.std.specs.Cmp.Lexicographic.{slice_cmp}
use Rattle.lw_index.specs.declared.parts.Document.{Document}
use Rattle.lw_index.specs.Indexed.{Indexed}
use Rattle.lw_index.specs.Exported.{IsExported}

module _ (index : Indexed) (doc : ℕ) (name : List ℕ) (type : ℕ) where
  -- another document, with this URI, that exports the name with the type
  pub record IsRival (uri : List ℕ) : Type 0 where
    pub other : ℕ
    pub document : Document
    pub node : ℕ
    pub another : other ≢ doc
    pub exported : IsExported index name type other document node
    pub uri_is : document.uri ≡ uri

  -- of the URIs of all rivals the least by its bytes
  pub record IsLeastRival (uri : List ℕ) : Type 0 where
    pub rival : IsRival uri
    pub least : (other : List ℕ) → IsRival other → is_gt (slice_cmp nat_cmp uri other) ≡ false

  abbrev pub HasNoRival : Type 0
  HasNoRival = (uri : List ℕ) → ¬ (IsRival uri)
