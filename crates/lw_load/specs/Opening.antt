-- What is known of a file that was opened, and of one that could not be.
use Rattle.std.specs.Prelude.{ℕ, ◌≡◌, ◌≢◌, ◌+◌, ◌<◌, ◌≤◌, List, length, Option, IfSome}
use Rattle.lw_base.specs.declared.limits.TheConstants.{LONGEST_TEXT}
use Rattle.lw_grammar.specs.declared.grammar.Grammar.{Grammar}
use Rattle.lw_grammar.specs.Size.{size}
use Rattle.lw_gramread.specs.declared.reader.ReadFault.TheVariants as reading
use Rattle.lw_gramread.specs.Refusals.{IsRefusal}
use Rattle.lw_gramread.specs.Syntax.{Syntax}
use Rattle.lw_gramread.specs.PlacesWithin.{StandsWithin}
use Rattle.lw_text.specs.Position.{IsPosition}
use Rattle.lw_load.specs.declared.limits.TheConstants.{LARGEST_GRAMMAR}
use Rattle.lw_load.specs.declared.fault.LoadFault.{LoadFault}
use Rattle.lw_load.specs.declared.fault.LoadFault.TheVariants.{Read, NoMemory}
use Rattle.lw_load.specs.declared.opening.Opened.{Opened}
use Rattle.lw_load.specs.Loading.{Files, LoadedFile, size_of_all, HoldsText}
use Rattle.lw_load.specs.LoadFaults.{FailsAt, IsOfFiles, place_of_refusal}

-- the text says this grammar and no other
pub record SaysOnly (text : List ℕ) (g : Grammar) : Type 0 where
  pub says : Syntax text g
  pub only : (other : Grammar) → Syntax text other → other ≡ g

-- the file was found at this path, and says what it says
pub record IsFound (told : Option Files) (path : List ℕ) (file : Opened) : Type 0 where
  pub found : file.path ≡ path
  pub holds : IfSome told (λ files. HoldsText files path file.text)
  pub says : SaysOnly file.text file.says
  pub short : length file.text ≤ LONGEST_TEXT
  pub stands : StandsWithin file.text file.says

-- why a text that the file at this path holds was not read
abbrev pub IsUnreadable : List ℕ → List ℕ → LoadFault → Type 0
IsUnreadable path text (Read p found at) =
    (p ≡ path) × (found ≢ reading.NoMemory) × IsRefusal text found × ((g : Grammar) → ¬ Syntax text g) × IsPosition text (place_of_refusal found) at
IsUnreadable path text NoMemory = Unit {0}
IsUnreadable path text _ = ⊥

-- the file at this path cannot be loaded behind files of this size
pub record CannotLoad (files : Files) (before : ℕ) (path : List ℕ) (found : LoadFault) : Type 0 where
  pub fails : found ≢ NoMemory → (loaded : List LoadedFile) → size_of_all loaded ≡ before → FailsAt files loaded path found
  pub large : IsOfFiles found → (text : List ℕ) (g : Grammar) → HoldsText files path text → Syntax text g → LARGEST_GRAMMAR < before + size g
