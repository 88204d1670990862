-- What is kept of texts that were read, and when it belongs to the documents of a workspace: each reading is that of the text of a document, and
-- the index holds what these documents export.
-- Held against Langium's document lifecycle: "Parsing" and "Indexing of symbols" take each document by itself.
use Rattle.std.specs.Prelude.{ℕ, ◌≡◌, ◌<◌, ◌^◌, List, length, Option, Some, None, option_and_then, option_map}
use Rattle.std.specs.BTreeMap as tree
use Rattle.std.specs.FinMap.{get}
use Rattle.std.specs.Str.{IsUtf8}
use Rattle.std.specs.Ordering.{nat_cmp}
use Rattle.lw_docs.specs.Documents.{ByAddress, Numbered}
use Rattle.lw_grammar.specs.declared.grammar.Grammar.{Grammar}
use Rattle.lw_index.specs.Indexed.{Indexed}
use Rattle.lw_index.specs.declared.parts.Export.{Export}
use Rattle.lw_link.specs.Indexed.{AreEntriesAt}
use Rattle.lw_reading.specs.Issues.{IsNamed, IsIssueWithin}
use Rattle.lw_reading.specs.Reading.{Reads}
use Rattle.lw_reading.specs.declared.parsed.Parsed.TheVariants as parsed
use Rattle.lw_reading.specs.Within.{StandsInText}
use Rattle.lw_scoping.specs.Links.{Trees}
use Rattle.lw_link_rules.specs.Links.{Texts}
use Rattle.lw_symbols.specs.Locals.{AreLocalsOf}
use Rattle.lw_tree.specs.Parts.{Parts}
use Rattle.lw_build.specs.declared.readings.Reading.{Reading}
use Rattle.lw_build.specs.declared.readings.Reading.TheVariants.{Whole, Broken}
use Rattle.lw_build.specs.declared.readings.Readings.{Readings}

-- the tree, where the text is read whole
abbrev pub tree_of : Reading → Option Parts
tree_of (Whole tree locals) = Some tree
tree_of (Broken issue) = None

-- what the text was read as, by the grammar whose kinds have these texts; the references of a tree have numbers
abbrev pub IsReadingOfText : Grammar → List (List ℕ) → List ℕ → Reading → Type 0
IsReadingOfText g texts text (Whole tree locals) =
    Reads g text (parsed.Whole tree) × StandsInText text tree × AreLocalsOf tree locals × (length tree.refs < 2 ^ 32)
IsReadingOfText g texts text (Broken issue) = Reads g text (parsed.Broken issue) × IsNamed texts issue × IsIssueWithin text issue

-- what is kept of the document of a number
abbrev pub reading_at : Readings → ℕ → Option Reading
reading_at readings n = tree.get nat_cmp readings.texts n

-- its tree, where it was read whole
abbrev pub tree_numbered : Readings → ℕ → Option Parts
tree_numbered readings n = option_and_then tree_of (reading_at readings n)

abbrev pub HasReading : Readings → ℕ → Type 0
HasReading readings n = (reading : Reading) × (reading_at readings n ≡ Some reading)

module _ (g : Grammar) (texts : List (List ℕ)) (kept : ByAddress) where
  -- a reading of the document of a number, and what the index holds of it
  pub record IsDocumentRead (index : Indexed) (n : ℕ) (reading : Reading) : Type 0 where
    pub held : Numbered
    pub number : held.number.0 ≡ n
    pub here : get kept held.doc.uri ≡ Some held
    pub utf8 : IsUtf8 held.doc.text
    pub reads : IsReadingOfText g texts held.doc.text reading
    pub exports : List Export
    pub indexed : get index n ≡ Some (record { uri = held.doc.uri; exports = exports })
    pub entered : AreEntriesAt (tree_of reading) exports

  -- each reading is one of a document, and nothing else is in the index
  pub record AreDocumentsRead (readings : Readings) : Type 0 where
    pub each : (n : ℕ) (reading : Reading) → reading_at readings n ≡ Some reading → IsDocumentRead readings.index n reading
    pub nothing_else : (n : ℕ) → reading_at readings n ≡ None → get readings.index n ≡ None

-- the text of each document, and its tree
abbrev pub present_texts_of : ByAddress → Texts
present_texts_of kept address = option_map (λ held. held.doc.text) (get kept address)

abbrev pub trees_of : ByAddress → Readings → Trees
trees_of kept readings address = option_and_then (λ held. option_and_then tree_of (reading_at readings held.number.0)) (get kept address)

-- each document was read
abbrev pub AreAllRead : ByAddress → Readings → Type 0
AreAllRead kept readings = (address : List ℕ) (held : Numbered) → get kept address ≡ Some held → HasReading readings held.number.0
