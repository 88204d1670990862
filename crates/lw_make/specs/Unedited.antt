-- Documents of a workspace that is being made, before their edits.
use Rattle.std.specs.Prelude.{ℕ, ◌≡◌, ◌<◌, ◌≤◌, Some}
use Rattle.lw_machine.specs.Documents.{Documents, present_texts}
use Rattle.lw_make.specs.Made.{edit_count, made_address, made_edit, made_text}

-- of a workspace of so many, the documents of the edits from this number on have the texts that they were put with
abbrev pub AreUnedited : ℕ → ℕ → Documents → Type 0
AreUnedited count from m = (number : ℕ) → from ≤ number → number < edit_count count →
    present_texts m (made_address (made_edit number).document) ≡ Some (made_text (made_edit number).document count)
