-- Opening and editing a document has an outcome.
use Rattle.std.proofs.Common.{◌≡◌, ℕ, ℤ, List, All, Result, Ok, Err, Some, length, inl, inr, ◌⊎◌}
use Rattle.std.specs.FinMap.{get}
use Rattle.std.specs.Str.{IsUtf8}
use Rattle.std.proofs.lemmas.Bool.{cases_lt}
use Rattle.lw_base.specs.declared.limits.TheConstants.{LONGEST_TEXT}
use Rattle.lw_rpc.specs.declared.reply.Reply.{Reply}
use Rattle.lw_text.specs.Changes.{Changes}
use Rattle.lw_text.specs.declared.change.Change.{Change}
use Rattle.lw_text.specs.declared.change.EditFault.{EditFault}
use Rattle.lw_text.specs.declared.change.EditFault.TheVariants.{BadRange, TooLong, NoMemory}
use Rattle.lw_text.specs.declared.units.Encoding.TheVariants.{Utf16}
use Rattle.lw_text.specs.Changes as change
use Rattle.lw_text.proofs.Outcomes.{Changes-some}
use Rattle.lw_machine.specs.Documents.{Document, Documents}
use Rattle.lw_conversation.specs.Editing as editing
use Rattle.lw_conversation.specs.Editing.{EditsDocument, IsOpenAt, IsUnknown}
use Rattle.lw_conversation.specs.Opening as opening
use Rattle.lw_conversation.specs.Opening.{OpensDocument}
use Rattle.lw_conversation.proofs.SomeFile.{open_or_not, room_or_full}

-- the texts of the documents are UTF-8
abbrev pub HaveTexts : Documents → Type 0
HaveTexts m = (address : List ℕ) (d : Document) → get m address ≡ Some d → IsUtf8 d.text

pub some_opening : (m : Documents) (address : List ℕ) (version : ℤ) (text : List ℕ) → (n : Documents) × (replies : List Reply) × OpensDocument m address version text n replies
some_opening m address version text = elim (cases_lt LONGEST_TEXT (length text)) [
  | inl long ↦ (m, _, opening.too_long long)
  | inr short ↦ elim (room_or_full m address) [ inl room ↦ (_, _, opening.puts short room) | inr full ↦ (m, _, opening.too_many short full) ]
]

no_memory_lost : {A : Type 0} (text : List ℕ) (changes : List Change) → Changes Utf16 text changes (Err NoMemory) → A
no_memory_lost text changes (change.refused before one after middle parts made refused) = elim refused [ ]

module _ (m : Documents) (utf8 : HaveTexts m) (address : List ℕ) (version : ℤ) (changes : List Change) (texts : All (λ c. IsUtf8 c.text) changes) where
  abbrev pub HasEdit : Type 0
  HasEdit = (n : Documents) × (replies : List Reply) × EditsDocument m address version changes n replies

  by_outcome : (d : Document) → IsOpenAt m address d → (outcome : Result (List ℕ) EditFault) → Changes Utf16 d.text changes outcome → HasEdit
  by_outcome d here (Ok text) does = (_, _, editing.edits here does)
  by_outcome d here (Err (BadRange number)) does = (m, _, editing.bad_range here does)
  by_outcome d here (Err (TooLong size)) does = (m, _, editing.too_long here does)
  by_outcome d here (Err NoMemory) does = no_memory_lost d.text changes does

  pub some_edit : HasEdit
  some_edit = by (open_or_not m address)
    where
      by : ((d : Document) × IsOpenAt m address d) ⊎ IsUnknown m address → HasEdit
      by (inl (d, here)) = let does = Changes-some Utf16 d.text changes (utf8 address d here.held) texts in by_outcome d here does.0 does.1
      by (inr shut) = (m, _, editing.unknown shut)
