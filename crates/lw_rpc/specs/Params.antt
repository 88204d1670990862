-- What the parameters of a method must have, and what they say. Language Server Protocol 3.17, "DidOpenTextDocumentParams",
-- "TextDocumentItem", "DidChangeTextDocumentParams", "VersionedTextDocumentIdentifier", "TextDocumentPositionParams", "ReferenceParams",
-- "RenameParams", "CompletionParams", "DidCloseTextDocumentParams" and "DidChangeWatchedFilesParams". Further keys are ignored, and of a key that stands twice the last value counts.
use Rattle.std.specs.Prelude.{ℕ, ℤ, List, Bool, codes, Option, Some, None, option_map, option_and_then}
use Rattle.serde_json.specs.Data.{Data}
use Rattle.serde_json.specs.Find.{get, as_bool, as_str, as_number, as_array, as_i64}
use Rattle.lw_text.specs.declared.change.Change.{Change}
use Rattle.lw_text.specs.declared.place.Pos.{Pos}
use Rattle.lw_rpc.specs.ChangeParams.{position_of, changes_of}
use Rattle.lw_rpc.specs.FileChangeParams.{file_changes_of}
use Rattle.lw_rpc.specs.declared.file_change.FileChange.{FileChange}
use Rattle.lw_rpc.specs.declared.message.Id.{Id}
use Rattle.lw_rpc.specs.declared.message.Message.{Message}
use Rattle.lw_rpc.specs.declared.message.Message.TheVariants.{Definition, References, Rename, Completion, DidOpen, DidChange, DidClose, DidChangeWatchedFiles}

-- the member under the key, where there is a value and it is an object with the key
abbrev pub member_at : List ℕ → Option Data → Option Data
member_at key value = option_and_then (get key) value

-- the text under the key
abbrev pub text_at : List ℕ → Option Data → Option (List ℕ)
text_at key value = option_and_then as_str (member_at key value)

-- the whole number from -2^63 to 2^63-1 under the key; `1.0`, `1e2` and `-0` are none
abbrev pub whole_at : List ℕ → Option Data → Option ℤ
whole_at key value = option_and_then as_i64 (option_and_then as_number (member_at key value))

abbrev pub opened : Option (List ℕ) → Option ℤ → Option (List ℕ) → Option Message
opened (Some uri) (Some version) (Some text) = Some (DidOpen uri version text)
opened (Some uri) (Some version) None = None
opened (Some uri) None text = None
opened None version text = None

-- a document with its address, its version and its text
abbrev pub opened_document : Option Data → Option Message
opened_document document = opened (text_at (codes "uri") document) (whole_at (codes "version") document) (text_at (codes "text") document)

-- `textDocument/didOpen`: such a document under `textDocument`
abbrev pub did_open : Option Data → Option Message
did_open params = opened_document (member_at (codes "textDocument") params)

-- the changes under the key, which is a list of them
abbrev pub changes_at : List ℕ → Option Data → Option (List Change)
changes_at key value = option_and_then changes_of (option_and_then as_array (member_at key value))

abbrev pub edit_by : Option (List ℕ) → Option ℤ → Option (List Change) → Option Message
edit_by (Some uri) (Some version) (Some changes) = Some (DidChange uri version changes)
edit_by (Some uri) (Some version) None = None
edit_by (Some uri) None changes = None
edit_by None version changes = None

-- a document with its address and its version, and what is changed in it
abbrev pub document_edit : Option Data → Option (List Change) → Option Message
document_edit document changes = edit_by (text_at (codes "uri") document) (whole_at (codes "version") document) changes

-- `textDocument/didChange`: such a document under `textDocument`, and a list of changes under `contentChanges`, which may be empty
abbrev pub did_change : Option Data → Option Message
did_change params = document_edit (member_at (codes "textDocument") params) (changes_at (codes "contentChanges") params)

-- `textDocument/didClose`: a document with its address under `textDocument`
abbrev pub did_close : Option Data → Option Message
did_close params = option_map DidClose (text_at (codes "uri") (member_at (codes "textDocument") params))

-- the changes of files under the key, which is a list of them
abbrev pub file_changes_at : List ℕ → Option Data → Option (List FileChange)
file_changes_at key value = option_and_then file_changes_of (option_and_then as_array (member_at key value))

-- `workspace/didChangeWatchedFiles`: a list of changes of files under `changes`, which may be empty
abbrev pub did_change_watched_files : Option Data → Option Message
did_change_watched_files params = option_map DidChangeWatchedFiles (file_changes_at (codes "changes") params)

-- the position under the key
abbrev pub position_at : List ℕ → Option Data → Option Pos
position_at key value = option_and_then position_of (member_at key value)

-- the `true` or `false` under the key
abbrev pub truth_at : List ℕ → Option Data → Option Bool
truth_at key value = option_and_then as_bool (member_at key value)

abbrev pub point_by : Option (List ℕ) → Option Pos → Option (List ℕ × Pos)
point_by (Some uri) (Some at) = Some (uri, at)
point_by (Some uri) None = None
point_by None at = None

-- a place in a document: the document's address under `textDocument`, and the position in it
abbrev pub point_of : Option Data → Option (List ℕ × Pos)
point_of params = point_by (text_at (codes "uri") (member_at (codes "textDocument") params)) (position_at (codes "position") params)

-- what asks about such a place and says no more, as the message that is made of it
abbrev pub asked_at_place : (List ℕ → Pos → Message) → Option Data → Option Message
asked_at_place made params = option_map (λ asked. made asked.0 asked.1) (point_of params)

-- `textDocument/definition`: such a place
abbrev pub definition_asked : Id → Option Data → Option Message
definition_asked id params = asked_at_place (Definition id) params

-- `textDocument/completion`: such a place
abbrev pub completion_asked : Id → Option Data → Option Message
completion_asked id params = asked_at_place (Completion id) params

abbrev pub flag_beside : Option (List ℕ × Pos) → Option Bool → Option (List ℕ × Pos × Bool)
flag_beside (Some point) (Some include) = Some (point.0, point.1, include)
flag_beside (Some point) None = None
flag_beside None include = None

-- such a place, and `includeDeclaration` under `context`
abbrev pub point_and_flag : Option Data → Option (List ℕ × Pos × Bool)
point_and_flag params = flag_beside (point_of params) (truth_at (codes "includeDeclaration") (member_at (codes "context") params))

-- `textDocument/references`: such a place, and whether the declaration is wanted too
abbrev pub references_asked : Id → Option Data → Option Message
references_asked id params = option_map (λ asked. References id asked.0 asked.1 asked.2) (point_and_flag params)

abbrev pub name_beside : Option (List ℕ × Pos) → Option (List ℕ) → Option (List ℕ × Pos × List ℕ)
name_beside (Some point) (Some name) = Some (point.0, point.1, name)
name_beside (Some point) None = None
name_beside None name = None

-- such a place, and the text `newName`
abbrev pub point_and_name : Option Data → Option (List ℕ × Pos × List ℕ)
point_and_name params = name_beside (point_of params) (text_at (codes "newName") params)

-- `textDocument/rename`: such a place, and the new name of what is there
abbrev pub rename_asked : Id → Option Data → Option Message
rename_asked id params = option_map (λ asked. Rename id asked.0 asked.1 asked.2) (point_and_name params)
