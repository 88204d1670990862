-- The documents of a generated workspace, by their numbers: their addresses, their texts, and the edits that are made in them. Each document
-- has the same states; each state leads to the one behind it in its document, round to the first, and to the one of its own number in the
-- document behind, round to the first document.
use Rattle.std.specs.Prelude.{ℕ, ◌+◌, ◌-◌, ◌*◌, ◌/◌, ◌%◌, List, ◌++◌, Some, codes, decimal, length, pos, replicate}
use Rattle.std.specs.List.{flat_map, range_with_len}
use Rattle.lw_text.specs.declared.change.Change.{Change}
use Rattle.lw_text.specs.declared.place.Pos.{Pos}
use Rattle.lw_make.specs.declared.documents.TheConstants.{STATES}
use Rattle.lw_make.specs.declared.edits.TheConstants.{DOCUMENTS_PER_EDIT}
use Rattle.lw_make.specs.declared.edits.MadeEdit.{MadeEdit}

-- a number with as many zeros in front as it lacks of four digits
unfoldable pub four_digits : ℕ → List ℕ
four_digits number = replicate (4 - length (decimal number)) 48 ++ decimal number

-- the address of a document
abbrev pub made_address : ℕ → List ℕ
made_address document = codes "file:///made/d" ++ four_digits document ++ codes ".s"

-- the first line of a document
abbrev pub model_line : ℕ → List ℕ
model_line document = codes "model m" ++ decimal document ++ codes "\n"

-- the name of a state of a document
abbrev pub state_name : ℕ → ℕ → List ℕ
state_name document state = codes "s" ++ decimal document ++ codes "_" ++ decimal state

-- the line of a state of a document, where `next` is the document behind
unfoldable pub state_line : ℕ → ℕ → ℕ → List ℕ
state_line document next state =
    codes "state " ++ state_name document state
    ++ codes " to " ++ state_name document ((state + 1) % STATES)
    ++ codes " to " ++ state_name next state
    ++ codes " end\n"

-- the lines of its states
unfoldable pub state_lines : ℕ → ℕ → List ℕ
state_lines document next = flat_map (state_line document next) (range_with_len 0 STATES)

-- the text of a document of so many
abbrev pub made_text : ℕ → ℕ → List ℕ
made_text document count = model_line document ++ state_lines document ((document + 1) % count)

-- where the line behind that of the model starts
abbrev pub behind_model : Pos
behind_model = record { line = 1; character = 0 }

-- the line that is put into a document: a state that leads to a name that no state has
abbrev pub edit_line : ℕ → List ℕ
edit_line document = codes "state c" ++ decimal document ++ codes " to x" ++ decimal document ++ codes " end\n"

-- that line is put in, and nothing is taken out
abbrev pub made_change : ℕ → Change
made_change document = record { range = Some (behind_model, behind_model); text = edit_line document }

-- how many edits so many documents have
abbrev pub edit_count : ℕ → ℕ
edit_count count = count / DOCUMENTS_PER_EDIT

-- the edits by their numbers, which are their versions
abbrev pub made_edit : ℕ → MadeEdit
made_edit number = record { document = DOCUMENTS_PER_EDIT * number; version = pos number; change = made_change (DOCUMENTS_PER_EDIT * number) }
