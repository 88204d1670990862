-- When a body is which message, one rule for each. JSON-RPC 2.0, "Request object", "Notification" and "Response object"; Language Server
-- Protocol 3.17, "Base types", "Request Message", "DidOpenTextDocumentParams", "TextDocumentItem", "DidChangeTextDocumentParams",
-- "TextDocumentContentChangeEvent", "TextDocumentPositionParams", "ReferenceParams", "RenameParams", "CompletionParams",
-- "DidCloseTextDocumentParams", "DidChangeWatchedFilesParams", "FileEvent" and "FileChangeType".
use Rattle.std.specs.Prelude.{◌≡◌, ◌⊎◌, ◌<◌, ◌^◌, ℕ, ℤ, List, Bool, codes, Option, Some, None, IsSome, IsUtf8}
use Rattle.serde_json.specs.Data.{Data, Num, Items, unsigned, boolean, string, number, array}
use Rattle.serde_json.specs.Find.{get, as_i64}
use Rattle.serde_json.specs.Read.{read}
use Rattle.lw_text.specs.declared.change.Change.{Change}
use Rattle.lw_text.specs.declared.place.Pos.{Pos}
use Rattle.lw_rpc.specs.Listed.{AreEach}
use Rattle.lw_rpc.specs.declared.file_change.FileChange.{FileChange}
use Rattle.lw_rpc.specs.declared.file_change.FileChangeKind.{FileChangeKind}
use Rattle.lw_rpc.specs.declared.file_change.FileChangeKind.TheVariants.{Created, Changed, Deleted}
use Rattle.lw_rpc.specs.declared.message.Id.{Id}
use Rattle.lw_rpc.specs.declared.message.Id.TheVariants.{Whole, Words}
use Rattle.lw_rpc.specs.declared.message.Message.{Message}
use Rattle.lw_rpc.specs.declared.message.Message.TheVariants.{BadJson, BadRequest, Response, Unknown, BadParams, Initialize, Shutdown, Definition, References, Rename, Completion, Exit, DidOpen, DidChange, DidClose, DidChangeWatchedFiles}

-- the body is UTF-8 and reads as the value
pub record HasValue (body : List ℕ) (d : Data) : Type 0 where
  pub utf8 : IsUtf8 body
  pub value : read body ≡ Some d

-- the value is the id: a text, or a whole number from -2^63 to 2^63-1
pub data IsId : Data → Id → Type 0 where
  text_id : {text : List ℕ} → IsId (string text) (Words text)
  whole_id : {n : Num} {z : ℤ} → as_i64 n ≡ Some z → IsId (number n) (Whole z)

-- the object has the id, or no member `id`
abbrev pub HasId : Data → Option Id → Type 0
HasId d (Some id) = (w : Data) × (get (codes "id") d ≡ Some w) × IsId w id
HasId d None = get (codes "id") d ≡ None

-- a request with this id, or a notification without one
pub record IsCall (d : Data) (id : Option Id) (method : List ℕ) : Type 0 where
  pub says_version : get (codes "jsonrpc") d ≡ Some (string (codes "2.0"))
  pub has_id : HasId d id
  pub has_method : get (codes "method") d ≡ Some (string method)

-- a response has `jsonrpc` and `id`, whatever their values
pub record IsResponse (d : Data) : Type 0 where
  pub has_version : IsSome (get (codes "jsonrpc") d)
  pub has_id : IsSome (get (codes "id") d)
  pub no_method : get (codes "method") d ≡ None

-- the methods of requests, and those of notifications
abbrev pub IsKnown : Option Id → List ℕ → Type 0
IsKnown (Some id) method =
    (method ≡ codes "initialize") ⊎ ((method ≡ codes "shutdown")
    ⊎ ((method ≡ codes "textDocument/definition") ⊎ ((method ≡ codes "textDocument/references")
    ⊎ ((method ≡ codes "textDocument/rename") ⊎ (method ≡ codes "textDocument/completion")))))
IsKnown None method =
    (method ≡ codes "exit") ⊎ ((method ≡ codes "textDocument/didOpen") ⊎ ((method ≡ codes "textDocument/didChange")
    ⊎ ((method ≡ codes "textDocument/didClose") ⊎ (method ≡ codes "workspace/didChangeWatchedFiles"))))

-- the parameters of `textDocument/didOpen`
pub record Opens (d : Data) (uri : List ℕ) (version : ℤ) (text : List ℕ) : Type 0 where
  pub params : Data
  pub document : Data
  pub number_of : Num
  pub has_params : get (codes "params") d ≡ Some params
  pub has_document : get (codes "textDocument") params ≡ Some document
  pub has_uri : get (codes "uri") document ≡ Some (string uri)
  pub has_version : get (codes "version") document ≡ Some (number number_of)
  pub is_whole : as_i64 number_of ≡ Some version
  pub has_text : get (codes "text") document ≡ Some (string text)

-- the object has the whole number, from 0 to 4,294,967,295, under the key
abbrev pub HasCount : List ℕ → Data → ℕ → Type 0
HasCount key d n = (get key d ≡ Some (number (unsigned n))) × (n < 2 ^ 32)

-- the value is the position
pub record IsPos (d : Data) (at : Pos) : Type 0 where
  pub has_line : HasCount (codes "line") d at.line
  pub has_character : HasCount (codes "character") d at.character

-- the object has the position under the key
abbrev pub HasPos : List ℕ → Data → Pos → Type 0
HasPos key d at = (value : Data) × (get key d ≡ Some value) × IsPos value at

-- the value is the range
pub record IsRange (d : Data) (range : Pos × Pos) : Type 0 where
  pub has_start : HasPos (codes "start") d range.0
  pub has_end : HasPos (codes "end") d range.1

-- the object has the range, or no member `range`
abbrev pub HasRange : Data → Option (Pos × Pos) → Type 0
HasRange d (Some range) = (value : Data) × (get (codes "range") d ≡ Some value) × IsRange value range
HasRange d None = get (codes "range") d ≡ None

-- the value is the change
pub record IsChange (d : Data) (change : Change) : Type 0 where
  pub has_range : HasRange d change.range
  pub has_text : get (codes "text") d ≡ Some (string change.text)

-- the parameters of `textDocument/didChange`
pub record Edits (d : Data) (uri : List ℕ) (version : ℤ) (changes : List Change) : Type 0 where
  pub params : Data
  pub document : Data
  pub number_of : Num
  pub values : Items
  pub has_params : get (codes "params") d ≡ Some params
  pub has_document : get (codes "textDocument") params ≡ Some document
  pub has_uri : get (codes "uri") document ≡ Some (string uri)
  pub has_version : get (codes "version") document ≡ Some (number number_of)
  pub is_whole : as_i64 number_of ≡ Some version
  pub has_changes : get (codes "contentChanges") params ≡ Some (array values)
  pub are_changes : AreEach IsChange values changes

-- the parameters of `textDocument/didClose`
pub record ClosesDocument (d : Data) (uri : List ℕ) : Type 0 where
  pub params : Data
  pub document : Data
  pub has_params : get (codes "params") d ≡ Some params
  pub has_document : get (codes "textDocument") params ≡ Some document
  pub has_uri : get (codes "uri") document ≡ Some (string uri)

-- the number of what was done to a file
abbrev pub number_of_kind : FileChangeKind → ℕ
number_of_kind Created = 1
number_of_kind Changed = 2
number_of_kind Deleted = 3

-- the value is the change of a file
pub record IsFileChange (d : Data) (change : FileChange) : Type 0 where
  pub has_uri : get (codes "uri") d ≡ Some (string change.uri)
  pub has_type : get (codes "type") d ≡ Some (number (unsigned (number_of_kind change.kind)))

-- the parameters of `workspace/didChangeWatchedFiles`
pub record TellsOfFiles (d : Data) (changes : List FileChange) : Type 0 where
  pub params : Data
  pub values : Items
  pub has_params : get (codes "params") d ≡ Some params
  pub has_changes : get (codes "changes") params ≡ Some (array values)
  pub are_changes : AreEach IsFileChange values changes

-- the parameters name a place in a document
pub record NamesPoint (params : Data) (uri : List ℕ) (at : Pos) : Type 0 where
  pub document : Data
  pub has_document : get (codes "textDocument") params ≡ Some document
  pub has_uri : get (codes "uri") document ≡ Some (string uri)
  pub has_position : HasPos (codes "position") params at

-- the parameters of `textDocument/definition` and of `textDocument/completion`
pub record AsksAtPlace (d : Data) (uri : List ℕ) (at : Pos) : Type 0 where
  pub params : Data
  pub has_params : get (codes "params") d ≡ Some params
  pub names_point : NamesPoint params uri at

-- the parameters of `textDocument/references`
pub record AsksReferences (d : Data) (uri : List ℕ) (at : Pos) (include_declaration : Bool) : Type 0 where
  pub params : Data
  pub context : Data
  pub has_params : get (codes "params") d ≡ Some params
  pub names_point : NamesPoint params uri at
  pub has_context : get (codes "context") params ≡ Some context
  pub has_flag : get (codes "includeDeclaration") context ≡ Some (boolean include_declaration)

-- the parameters of `textDocument/rename`
pub record AsksRename (d : Data) (uri : List ℕ) (at : Pos) (new_name : List ℕ) : Type 0 where
  pub params : Data
  pub has_params : get (codes "params") d ≡ Some params
  pub names_point : NamesPoint params uri at
  pub has_new_name : get (codes "newName") params ≡ Some (string new_name)

-- The rules. Each body meets the rule of exactly one message.
pub data IsMessage (body : List ℕ) : Message → Type 0 where
  bad_json : ((d : Data) → ¬ HasValue body d) → IsMessage body BadJson
  bad_request : (d : Data) → HasValue body d → ¬ IsResponse d → ((id : Option Id) (method : List ℕ) → ¬ IsCall d id method) → IsMessage body BadRequest
  response : (d : Data) → HasValue body d → IsResponse d → IsMessage body Response
  unknown : (d : Data) {id : Option Id} {method : List ℕ} → HasValue body d → IsCall d id method → ¬ IsKnown id method → IsMessage body (Unknown id method)
  initialize : (d : Data) {id : Id} → HasValue body d → IsCall d (Some id) (codes "initialize") → IsMessage body (Initialize id)
  shutdown : (d : Data) {id : Id} → HasValue body d → IsCall d (Some id) (codes "shutdown") → IsMessage body (Shutdown id)
  asks_definition : (d : Data) {id : Id} {uri : List ℕ} {at : Pos} → HasValue body d → IsCall d (Some id) (codes "textDocument/definition")
      → AsksAtPlace d uri at → IsMessage body (Definition id uri at)
  not_definition : (d : Data) {id : Id} → HasValue body d → IsCall d (Some id) (codes "textDocument/definition")
      → ((uri : List ℕ) (at : Pos) → ¬ AsksAtPlace d uri at) → IsMessage body (BadParams (Some id) (codes "textDocument/definition"))
  asks_references : (d : Data) {id : Id} {uri : List ℕ} {at : Pos} {include_declaration : Bool} → HasValue body d
      → IsCall d (Some id) (codes "textDocument/references") → AsksReferences d uri at include_declaration → IsMessage body (References id uri at include_declaration)
  not_references : (d : Data) {id : Id} → HasValue body d → IsCall d (Some id) (codes "textDocument/references")
      → ((uri : List ℕ) (at : Pos) (include_declaration : Bool) → ¬ AsksReferences d uri at include_declaration)
      → IsMessage body (BadParams (Some id) (codes "textDocument/references"))
  asks_rename : (d : Data) {id : Id} {uri new_name : List ℕ} {at : Pos} → HasValue body d → IsCall d (Some id) (codes "textDocument/rename")
      → AsksRename d uri at new_name → IsMessage body (Rename id uri at new_name)
  not_rename : (d : Data) {id : Id} → HasValue body d → IsCall d (Some id) (codes "textDocument/rename")
      → ((uri : List ℕ) (at : Pos) (new_name : List ℕ) → ¬ AsksRename d uri at new_name) → IsMessage body (BadParams (Some id) (codes "textDocument/rename"))
  asks_completion : (d : Data) {id : Id} {uri : List ℕ} {at : Pos} → HasValue body d → IsCall d (Some id) (codes "textDocument/completion")
      → AsksAtPlace d uri at → IsMessage body (Completion id uri at)
  not_completion : (d : Data) {id : Id} → HasValue body d → IsCall d (Some id) (codes "textDocument/completion")
      → ((uri : List ℕ) (at : Pos) → ¬ AsksAtPlace d uri at) → IsMessage body (BadParams (Some id) (codes "textDocument/completion"))
  exit : (d : Data) → HasValue body d → IsCall d None (codes "exit") → IsMessage body Exit
  opened : (d : Data) {uri : List ℕ} {version : ℤ} {text : List ℕ} → HasValue body d → IsCall d None (codes "textDocument/didOpen") → Opens d uri version text → IsMessage body (DidOpen uri version text)
  not_opened : (d : Data) → HasValue body d → IsCall d None (codes "textDocument/didOpen") → ((uri : List ℕ) (version : ℤ) (text : List ℕ) → ¬ Opens d uri version text) → IsMessage body (BadParams None (codes "textDocument/didOpen"))
  edited : (d : Data) {uri : List ℕ} {version : ℤ} {changes : List Change} → HasValue body d → IsCall d None (codes "textDocument/didChange") → Edits d uri version changes → IsMessage body (DidChange uri version changes)
  not_edited : (d : Data) → HasValue body d → IsCall d None (codes "textDocument/didChange") → ((uri : List ℕ) (version : ℤ) (changes : List Change) → ¬ Edits d uri version changes) → IsMessage body (BadParams None (codes "textDocument/didChange"))
  document_closed : (d : Data) {uri : List ℕ} → HasValue body d → IsCall d None (codes "textDocument/didClose") → ClosesDocument d uri → IsMessage body (DidClose uri)
  not_document_closed : (d : Data) → HasValue body d → IsCall d None (codes "textDocument/didClose") → ((uri : List ℕ) → ¬ ClosesDocument d uri) → IsMessage body (BadParams None (codes "textDocument/didClose"))
  files_changed : (d : Data) {changes : List FileChange} → HasValue body d → IsCall d None (codes "workspace/didChangeWatchedFiles") → TellsOfFiles d changes → IsMessage body (DidChangeWatchedFiles changes)
  not_files_changed : (d : Data) → HasValue body d → IsCall d None (codes "workspace/didChangeWatchedFiles") → ((changes : List FileChange) → ¬ TellsOfFiles d changes)
      → IsMessage body (BadParams None (codes "workspace/didChangeWatchedFiles"))
