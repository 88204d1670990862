-- Texts that can be read and shown.
-- Held against the Language Server Protocol 3.17, "Position": a place in a text is told in characters, which only UTF-8 has.
use Rattle.std.specs.Prelude.{ℕ, ◌≡◌, List, Some, Contains, IfSome}
use Rattle.std.specs.FinMap.{get}
use Rattle.std.specs.Str.{IsUtf8}
use Rattle.lw_grammar.specs.declared.grammar.Grammar.{Grammar}
use Rattle.lw_reading.specs.Reading.{Reads}
use Rattle.lw_reading.specs.declared.parsed.Parsed.{Parsed}
use Rattle.lw_link_rules.specs.Links.{Texts}
use Rattle.lw_machine.specs.Documents.{Document, Documents}

module _ (g : Grammar) where
  -- the text is UTF-8, and reads as something
  pub record IsReadable (text : List ℕ) : Type 0 where
    pub utf8 : IsUtf8 text
    pub parsed : Parsed
    pub reads : Reads g text parsed

  -- so are these texts, which stand at some of these addresses
  abbrev pub AreReadable : List (List ℕ) → Texts → Type 0
  AreReadable addresses texts = (address text : List ℕ) → texts address ≡ Some text → Contains addresses address × IsReadable text

  -- so is the present text of each document
  abbrev pub HaveReadablePresentTexts : Documents → Type 0
  HaveReadablePresentTexts m = (address : List ℕ) (d : Document) → get m address ≡ Some d → IsReadable d.text

  -- so are the present text of each and the shown one
  abbrev pub HaveReadableTexts : Documents → Type 0
  HaveReadableTexts m = (address : List ℕ) (d : Document) → get m address ≡ Some d → IsReadable d.text × IfSome d.shown IsReadable
