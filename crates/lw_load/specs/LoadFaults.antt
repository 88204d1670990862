-- Why a grammar is not loaded: the first fault in load order. What a file says, and then how large the files are so far, is looked at before its
-- imports are opened.
use Rattle.std.specs.Prelude.{ℕ, ◌≡◌, ◌≢◌, ◌+◌, ◌≤◌, ◌<◌, List, [], ◌∷◌, ◌++◌, Some, None, Result, Err, length}
use Rattle.std.specs.Str.{IsUtf8}
use Rattle.lw_base.specs.declared.limits.TheConstants.{LONGEST_TEXT}
use Rattle.lw_grammar.specs.declared.grammar.Grammar.{Grammar}
use Rattle.lw_grammar.specs.Size.{size}
use Rattle.lw_io.specs.Causes.{Faulted}
use Rattle.lw_io.specs.Store.{file_at}
use Rattle.lw_text.specs.Position.{IsPosition}
use Rattle.lw_gramread.specs.declared.reader.ReadFault.{ReadFault}
use Rattle.lw_gramread.specs.declared.reader.ReadFault.TheVariants as reading
use Rattle.lw_gramread.specs.Refusals.{IsRefusal}
use Rattle.lw_gramread.specs.Syntax.{Syntax}
use Rattle.lw_load.specs.declared.limits.TheConstants.{LARGEST_GRAMMAR}
use Rattle.lw_load.specs.declared.fault.LoadFault.{LoadFault}
use Rattle.lw_load.specs.declared.fault.LoadFault.TheVariants.{Absent, NotUtf8, TooLong, StoreFault, Read, TooLarge, NoMemory}
use Rattle.lw_load.specs.Loading.{Files, Address, root_address, LoadedFile, imports_of, IsAmong, size_of_all, HoldsText, LoadsNext, Visits}

-- where a refusal stands in its file
abbrev pub place_of_refusal : ReadFault → ℕ
place_of_refusal (reading.Unexpected s) = s.start
place_of_refusal (reading.LeftOut s form) = s.start
place_of_refusal (reading.TooDeep s) = s.start
place_of_refusal reading.NoMemory = 0

module _ (files : Files) where
  -- The files of these addresses are loaded in turn, each with all that it imports, behind those that were loaded before, up to the file of
  -- the last argument, which comes next; the one before it is what was loaded till then.
  pub data ArrivesAt : List LoadedFile → List Address → List LoadedFile → Address → Type 0 where
    next : {before : List LoadedFile} {address : Address} {others : List Address} → ¬ IsAmong before address → ArrivesAt before (address ∷ others) before address
    known : {before now : List LoadedFile} {address at : Address} {others : List Address} → IsAmong before address → ArrivesAt before others now at →
        ArrivesAt before (address ∷ others) now at
    within : {before now : List LoadedFile} {address at : Address} {others : List Address} {f : LoadedFile} → LoadsNext files before address f →
        ArrivesAt (before ++ f ∷ []) (imports_of f) now at → ArrivesAt before (address ∷ others) now at
    behind : {before inside now : List LoadedFile} {address at : Address} {others : List Address} {f : LoadedFile} → LoadsNext files before address f →
        Visits files (before ++ f ∷ []) (imports_of f) inside → ArrivesAt inside others now at → ArrivesAt before (address ∷ others) now at

  -- the file holds a text that says no grammar, and this is where it goes wrong
  pub record IsUnread (path : List ℕ) (found : ReadFault) (text : List ℕ) : Type 0 where
    pub holds : HoldsText files path text
    pub refusal : IsRefusal text found
    pub told : found ≢ reading.NoMemory
    pub nothing : (g : Grammar) → ¬ Syntax text g

  -- the file says a grammar, with which the files so far are too large
  pub record IsTooLarge (loaded : List LoadedFile) (path : List ℕ) : Type 0 where
    pub text : List ℕ
    pub says : Grammar
    pub holds : HoldsText files path text
    pub syntax_ : Syntax text says
    pub large : LARGEST_GRAMMAR < size_of_all loaded + size says

  -- why the file at this path cannot be loaded, behind those that were
  abbrev pub FailsAt : List LoadedFile → List ℕ → LoadFault → Type 0
  FailsAt loaded path (Absent p) = (p ≡ path) × (file_at files path ≡ None)
  FailsAt loaded path (NotUtf8 p) = (p ≡ path) × (bytes : List ℕ) × (file_at files path ≡ Some bytes) × (length bytes ≤ LONGEST_TEXT) × ¬ (IsUtf8 bytes)
  FailsAt loaded path (TooLong p) = (p ≡ path) × (bytes : List ℕ) × (file_at files path ≡ Some bytes) × (LONGEST_TEXT < length bytes)
  FailsAt loaded path (StoreFault p) = p ≡ path
  FailsAt loaded path (Read p found at) = (p ≡ path) × (text : List ℕ) × IsUnread path found text × IsPosition text (place_of_refusal found) at
  FailsAt loaded path (TooLarge p) = (p ≡ path) × IsTooLarge loaded path
  FailsAt loaded path NoMemory = ⊥

  -- the first fault of the files that the root leads to
  pub record StopsAt (root : List ℕ) (found : LoadFault) : Type 0 where
    pub loaded : List LoadedFile
    pub address : Address
    pub comes : ArrivesAt [] (root_address root ∷ []) loaded address
    pub fails : FailsAt loaded address.path found

  abbrev pub Stops : List ℕ → LoadFault → Type 0
  Stops root NoMemory = Unit {0}
  Stops root found = StopsAt root found

-- the files alone tell it: neither the store nor memory failed
abbrev pub IsOfFiles : LoadFault → Type 0
IsOfFiles (StoreFault path) = ⊥
IsOfFiles NoMemory = ⊥
IsOfFiles _ = Unit {0}

-- the count of the store rises at `StoreFault`, and stands still at every other answer
abbrev pub CountsLoad : {T : Type 0} → ℕ → ℕ → Result T LoadFault → Type 0
CountsLoad before now (Err (StoreFault path)) = Faulted before now
CountsLoad before now _ = now ≡ before
