-- The JSON value of a reply. JSON-RPC 2.0, "Response object" and "Error object"; Language Server Protocol 3.17, "InitializeResult",
-- "Location", "TextEdit", "WorkspaceEdit", "CompletionItem", "PublishDiagnosticsParams", "Diagnostic" and "LogMessageParams".
use Rattle.std.specs.Prelude.{ℕ, ℤ, List, [], ◌∷◌, ◌==◌, map, true, codes, if◌then◌else◌, Option, Some, None}
use Rattle.serde_json.specs.Data.{Data, null, boolean, number, string, array, object, unsigned, Members, no_members, put}
use Rattle.serde_json.specs.Find.{of_integer}
use Rattle.serde_json.specs.View.{items_of}
use Rattle.lw_text.specs.declared.place.Pos.{Pos}
use Rattle.lw_text.specs.declared.shown.Shown.{Shown}
use Rattle.lw_rpc.specs.declared.message.Id.{Id}
use Rattle.lw_rpc.specs.declared.message.Id.TheVariants.{Whole, Words}
use Rattle.lw_rpc.specs.declared.reply.CompletionItem.{CompletionItem}
use Rattle.lw_rpc.specs.declared.reply.FileEdits.{FileEdits}
use Rattle.lw_rpc.specs.declared.reply.Location.{Location}
use Rattle.lw_rpc.specs.declared.reply.TextEdit.{TextEdit}
use Rattle.lw_rpc.specs.declared.reply.Outcome.{Outcome}
use Rattle.lw_rpc.specs.declared.reply.Outcome.TheVariants.{Nothing, Hello, Spot, Spots, Edits, Offers}
use Rattle.lw_rpc.specs.declared.reply.Reply.{Reply}
use Rattle.lw_rpc.specs.declared.reply.Reply.TheVariants.{Done, Error, Publish, Log}

-- These members put in one after another. `put` keeps an object's members in byte order of their keys.
abbrev pub with_members : Members → List (List ℕ × Data) → Members
with_members found [] = found
with_members found (m ∷ others) = with_members (put m.0 m.1 found) others

-- the object of these members
abbrev pub object_of : List (List ℕ × Data) → Data
object_of members = object (with_members no_members members)

-- a whole number
abbrev pub whole : ℤ → Data
whole z = number (of_integer z)

abbrev pub natural : ℕ → Data
natural n = number (unsigned n)

-- the version of JSON-RPC, in every message
abbrev pub version : Data
version = string (codes "2.0")

abbrev pub id_value : Id → Data
id_value (Whole z) = whole z
id_value (Words text) = string text

-- of a fault whose request is not known the id is null
abbrev pub id_or_null : Option Id → Data
id_or_null (Some id) = id_value id
id_or_null None = null

-- documents are opened, closed and changed by parts
abbrev pub sync_options : Data
sync_options = object_of ((codes "change", natural 2) ∷ (codes "openClose", boolean true) ∷ [])

abbrev pub capabilities : Data
capabilities = object_of (
    (codes "completionProvider", object no_members)
    ∷ (codes "definitionProvider", boolean true)
    ∷ (codes "positionEncoding", string (codes "utf-16"))
    ∷ (codes "referencesProvider", boolean true)
    ∷ (codes "renameProvider", boolean true)
    ∷ (codes "textDocumentSync", sync_options)
    ∷ [])

abbrev pub server_info : Data
server_info = object_of ((codes "name", string (codes "langbench")) ∷ [])

-- what the server can do, and its name
abbrev pub hello : Data
hello = object_of ((codes "capabilities", capabilities) ∷ (codes "serverInfo", server_info) ∷ [])

-- lines and characters are counted from zero, characters in UTF-16 units
abbrev pub position_value : Pos → Data
position_value place = object_of ((codes "character", natural place.character) ∷ (codes "line", natural place.line) ∷ [])

abbrev pub range_value : Pos → Pos → Data
range_value start end = object_of ((codes "end", position_value end) ∷ (codes "start", position_value start) ∷ [])

-- a part of a document
abbrev pub location_value : Location → Data
location_value location = object_of ((codes "range", range_value location.start location.end) ∷ (codes "uri", string location.uri) ∷ [])

-- a text in place of what stands from the start up to the end
abbrev pub replacement_value : List ℕ → Pos → Pos → Data
replacement_value text start end = object_of ((codes "newText", string text) ∷ (codes "range", range_value start end) ∷ [])

abbrev pub edit_value : TextEdit → Data
edit_value edit = replacement_value edit.text edit.start edit.end

-- the edits of a document are a member under its address
abbrev pub file_member : FileEdits → List ℕ × Data
file_member file = (file.uri, array (items_of (map edit_value file.edits)))

-- what is to be changed, document by document
abbrev pub edits_value : List FileEdits → Data
edits_value files = object_of ((codes "changes", object_of (map file_member files)) ∷ [])

-- what may be put in: the text that an editor shows is the one that it puts in
abbrev pub offer_value : CompletionItem → Data
offer_value offer = object_of (
    (codes "kind", natural offer.kind)
    ∷ (codes "label", string offer.label)
    ∷ (codes "textEdit", replacement_value offer.label offer.start offer.end)
    ∷ [])

abbrev pub outcome_value : Outcome → Data
outcome_value Nothing = null
outcome_value Hello = hello
outcome_value (Spot location) = location_value location
outcome_value (Spots locations) = array (items_of (map location_value locations))
outcome_value (Edits files) = edits_value files
outcome_value (Offers offers) = array (items_of (map offer_value offers))

-- Code 5, a name that another document exports too, is a warning; the others are errors.
abbrev pub severity : ℕ → ℕ
severity code = if code == 5 then 2 else 1

abbrev pub diagnostic_value : Shown → Data
diagnostic_value shown = object_of (
    (codes "code", natural shown.code)
    ∷ (codes "message", string shown.message)
    ∷ (codes "range", range_value shown.start shown.end)
    ∷ (codes "severity", natural (severity shown.code))
    ∷ [])

-- there only where the document has a version
abbrev pub version_member : Option ℤ → List (List ℕ × Data)
version_member (Some z) = (codes "version", whole z) ∷ []
version_member None = []

abbrev pub publish_params : List ℕ → Option ℤ → List Shown → Data
publish_params uri at list = object_of (
    (codes "diagnostics", array (items_of (map diagnostic_value list)))
    ∷ (codes "uri", string uri)
    ∷ version_member at)

-- a message that asks for no answer
abbrev pub notification_value : List ℕ → Data → Data
notification_value method params = object_of ((codes "jsonrpc", version) ∷ (codes "method", string method) ∷ (codes "params", params) ∷ [])

abbrev pub fault_value : ℤ → List ℕ → Data
fault_value code message = object_of ((codes "code", whole code) ∷ (codes "message", string message) ∷ [])

-- a log message is an error's: type 1
abbrev pub log_params : List ℕ → Data
log_params message = object_of ((codes "message", string message) ∷ (codes "type", natural 1) ∷ [])

abbrev pub done_value : Id → Outcome → Data
done_value id outcome = object_of ((codes "id", id_value id) ∷ (codes "jsonrpc", version) ∷ (codes "result", outcome_value outcome) ∷ [])

abbrev pub error_value : Option Id → ℤ → List ℕ → Data
error_value id code message = object_of ((codes "error", fault_value code message) ∷ (codes "id", id_or_null id) ∷ (codes "jsonrpc", version) ∷ [])

-- the JSON value of a reply
unfoldable pub value_of : Reply → Data
value_of (Done id outcome) = done_value id outcome
value_of (Error id code message) = error_value id code message
value_of (Publish uri at list) = notification_value (codes "textDocument/publishDiagnostics") (publish_params uri at list)
value_of (Log message) = notification_value (codes "window/logMessage") (log_params message)
