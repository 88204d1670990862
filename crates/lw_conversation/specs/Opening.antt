-- A document is opened: its text is put, under its version, unless it is too long or too many others are held, which is told in the log.
-- Language Server Protocol 3.17, "DidOpenTextDocument Notification".
use Rattle.std.specs.Prelude.{ℕ, ℤ, ◌≡◌, ◌<◌, ◌≤◌, ◌⊎◌, List, [], ◌∷◌, ◌++◌, length, true, false, Some, codes}
use Rattle.std.specs.FinMap.{contains_key, len}
use Rattle.lw_base.specs.declared.limits.TheConstants.{LONGEST_TEXT}
use Rattle.lw_base.specs.declared.limits.TheConstants.{MOST_DOCUMENTS}
use Rattle.lw_rpc.specs.declared.reply.Reply.{Reply}
use Rattle.lw_rpc.specs.declared.reply.Reply.TheVariants.{Log}
use Rattle.lw_machine.specs.Documents.{Documents}
use Rattle.lw_machine.specs.Events.{put}

-- how many documents are held at most
abbrev pub most_documents : ℕ
most_documents = MOST_DOCUMENTS

-- the address is held, or there is room for one more
abbrev pub HasRoom : Documents → List ℕ → Type 0
HasRoom m address = (contains_key m address ≡ true) ⊎ (len m < most_documents)

-- it is not, and there is none
abbrev pub IsFull : Documents → List ℕ → Type 0
IsFull m address = (contains_key m address ≡ false) × (most_documents ≤ len m)

-- the documents and the replies once a document is opened
pub data OpensDocument (m : Documents) (address : List ℕ) (version : ℤ) (text : List ℕ) : Documents → List Reply → Type 0 where
  too_long : LONGEST_TEXT < length text → OpensDocument m address version text m (Log (codes "text too long: " ++ address) ∷ [])
  too_many : length text ≤ LONGEST_TEXT → IsFull m address → OpensDocument m address version text m (Log (codes "too many documents: " ++ address) ∷ [])
  puts : length text ≤ LONGEST_TEXT → HasRoom m address → OpensDocument m address version text (put m address text (Some version) true) []
