-- Why a text is not put, and why a document is not edited or removed.
use Rattle.std.specs.Prelude.{ℕ, ◌≡◌, ◌<◌, ◌≤◌, List, Some, None, Err, length, false}
use Rattle.std.specs.FinMap.{get, len, contains_key}
use Rattle.lw_base.specs.declared.limits.TheConstants.{LONGEST_TEXT}
use Rattle.lw_base.specs.declared.limits.TheConstants.{MOST_DOCUMENTS}
use Rattle.lw_docs.specs.Documents.{Numbered}
use Rattle.lw_text.specs.Changes.{Changes}
use Rattle.lw_text.specs.declared.change.Change.{Change}
use Rattle.lw_text.specs.declared.change.EditFault.{EditFault}
use Rattle.lw_text.specs.declared.change.EditFault.TheVariants as edit
use Rattle.lw_text.specs.declared.units.Encoding.TheVariants.{Utf16}
use Rattle.lw_build.specs.View.{WorkspaceView}
use Rattle.lw_build.specs.declared.fault.WorkFault.{WorkFault}
use Rattle.lw_build.specs.declared.fault.WorkFault.TheVariants.{NoDocument, TooMany, BadRange, TooLong, NoMemory}

-- no document is held at the address, and there are as many as there may be
abbrev pub HasNoRoom : WorkspaceView → List ℕ → Type 0
HasNoRoom v address = (contains_key v.kept address ≡ false) × (len v.kept ≡ MOST_DOCUMENTS)

-- why this text is not put at the address
pub data IsPutFault (v : WorkspaceView) (address text : List ℕ) : WorkFault → Type 0 where
  too_long : LONGEST_TEXT < length text → IsPutFault v address text (TooLong (length text))
  too_many : length text ≤ LONGEST_TEXT → HasNoRoom v address → IsPutFault v address text TooMany
  no_memory : IsPutFault v address text NoMemory

-- why these changes are not made in the document at the address
pub data IsEditFault (v : WorkspaceView) (address : List ℕ) (changes : List Change) : WorkFault → Type 0 where
  no_document : get v.kept address ≡ None → IsEditFault v address changes NoDocument
  bad_range : {held : Numbered} {number : ℕ} → get v.kept address ≡ Some held → Changes Utf16 held.doc.text changes (Err (edit.BadRange number)) →
      IsEditFault v address changes (BadRange number)
  too_long : {held : Numbered} {size : ℕ} → get v.kept address ≡ Some held → Changes Utf16 held.doc.text changes (Err (edit.TooLong size)) →
      IsEditFault v address changes (TooLong size)
  no_memory : IsEditFault v address changes NoMemory

-- why the document at the address is not removed
pub data IsRemovalFault (v : WorkspaceView) (address : List ℕ) : WorkFault → Type 0 where
  no_document : get v.kept address ≡ None → IsRemovalFault v address NoDocument
  no_memory : IsRemovalFault v address NoMemory

-- why a document is not taken in at an address at which there is none
pub data IsAddRefusal (v : WorkspaceView) : WorkFault → Type 0 where
  full : len v.kept ≡ MOST_DOCUMENTS → IsAddRefusal v TooMany
  starved : IsAddRefusal v NoMemory

-- what the fault of an edit is here
abbrev pub edit_fault : EditFault → WorkFault
edit_fault (edit.BadRange number) = BadRange number
edit_fault (edit.TooLong size) = TooLong size
edit_fault edit.NoMemory = NoMemory
