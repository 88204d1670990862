-- How documents are kept: in a table by number, whose free numbers are known, with the numbers by address and a knockout.
use Rattle.std.specs.Prelude.{ℕ, ◌≡◌, ◌<◌, List, [], length, map, false, Option, None, Some, slice_index, slice_index_or}
use Rattle.std.specs.BTreeMap as tree
use Rattle.std.specs.BTreeMap.{BTreeMap, IsOrdered}
use Rattle.std.specs.Cmp.Lexicographic.{slice_cmp}
use Rattle.std.specs.FinMap.{from_sorted}
use Rattle.std.specs.Option.{option_map_or, unwrap_or}
use Rattle.std.specs.Ordering.{nat_cmp}
use Rattle.lw_base.specs.declared.numbers.DocId.{DocId}
use Rattle.lw_docs.specs.declared.doc.Doc.{Doc}
use Rattle.lw_docs.specs.Documents.{Numbered, ByAddress, numbered, changed}

abbrev pub Slots : Type 0
Slots = List (Option Doc)

-- the document of a number
abbrev pub doc_in : Slots → ℕ → Option Doc
doc_in slots number = slice_index_or slots number None

-- its address
abbrev pub address_in : Slots → ℕ → List ℕ
address_in slots number = option_map_or (λ (x : Doc). x.uri) (doc_in slots number) []

abbrev pub Numbers : Type 0
Numbers = BTreeMap (List ℕ) DocId

-- what stands at an address, by the number there
abbrev pub entry_in : Slots → List ℕ × DocId → List ℕ × Numbered
entry_in slots (address, d) = (address, numbered d (unwrap_or (doc_in slots d.0) (changed [] [] None false)))

-- the documents that a table and its numbers stand for
abbrev pub held_in : Slots → Numbers → ByAddress
held_in slots numbers = from_sorted (map (entry_in slots) numbers.entries)

-- at each address stands the number of the document of that address, and nothing else
pub record AreNamed (slots : Slots) (numbers : Numbers) : Type 0 where
  pub ordered : IsOrdered (slice_cmp nat_cmp) numbers
  pub named : (address : List ℕ) (d : DocId) → tree.get (slice_cmp nat_cmp) numbers address ≡ Some d →
      (x : Doc) × (doc_in slots d.0 ≡ Some x) × (x.uri ≡ address)
  pub held : (d : DocId) (x : Doc) → doc_in slots d.0 ≡ Some x → tree.get (slice_cmp nat_cmp) numbers x.uri ≡ Some d

-- numbers of the table that no document has, each once
pub record AreSpare (slots : Slots) (spare : List ℕ) : Type 0 where
  pub within : (i : ℕ) → i < length spare → slice_index spare i < length slots
  pub vacant : (i : ℕ) → i < length spare → doc_in slots (slice_index spare i) ≡ None
  pub apart : (i j : ℕ) → i < length spare → j < length spare → slice_index spare i ≡ slice_index spare j → i ≡ j
