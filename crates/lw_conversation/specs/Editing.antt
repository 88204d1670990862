-- A document is edited: the changes of its text are made in their order, and it has the version that the editor gives it. Where one of them
-- cannot be made none is, and where no editor has the document open there is nothing to change; this is told in the log.
-- Language Server Protocol 3.17, "DidChangeTextDocument Notification".
use Rattle.std.specs.Prelude.{ℕ, ℤ, ◌≡◌, List, [], ◌∷◌, ◌++◌, true, false, Some, Ok, Err, codes, decimal}
use Rattle.std.specs.FinMap.{get, insert}
use Rattle.lw_text.specs.Changes.{Changes}
use Rattle.lw_text.specs.declared.change.Change.{Change}
use Rattle.lw_text.specs.declared.change.EditFault.TheVariants.{BadRange, TooLong}
use Rattle.lw_text.specs.declared.units.Encoding.TheVariants.{Utf16}
use Rattle.lw_rpc.specs.declared.reply.Reply.{Reply}
use Rattle.lw_rpc.specs.declared.reply.Reply.TheVariants.{Log}
use Rattle.lw_machine.specs.Documents.{Document, Documents}
use Rattle.lw_machine.specs.Events.{edited}

-- the document is held at the address, and an editor has it open
pub record IsOpenAt (m : Documents) (address : List ℕ) (d : Document) : Type 0 where
  pub held : get m address ≡ Some d
  pub is_open : d.is_open ≡ true

-- no editor has a document open at the address: none is held there, or it is closed
abbrev pub IsUnknown : Documents → List ℕ → Type 0
IsUnknown m address = (d : Document) → get m address ≡ Some d → d.is_open ≡ false

-- the documents and the replies once an editor has changed a document; changes are numbered from zero
pub data EditsDocument (m : Documents) (address : List ℕ) (version : ℤ) (changes : List Change) : Documents → List Reply → Type 0 where
  unknown : IsUnknown m address → EditsDocument m address version changes m (Log (codes "unknown document: " ++ address) ∷ [])
  bad_range : {d : Document} {number : ℕ} → IsOpenAt m address d → Changes Utf16 d.text changes (Err (BadRange number)) →
      EditsDocument m address version changes m (Log (codes "bad range in change " ++ decimal number ++ codes " of " ++ address) ∷ [])
  too_long : {d : Document} {size : ℕ} → IsOpenAt m address d → Changes Utf16 d.text changes (Err (TooLong size)) →
      EditsDocument m address version changes m (Log (codes "text too long: " ++ address) ∷ [])
  edits : {d : Document} {text : List ℕ} → IsOpenAt m address d → Changes Utf16 d.text changes (Ok text) →
      EditsDocument m address version changes (insert m address (edited d text version)) []
