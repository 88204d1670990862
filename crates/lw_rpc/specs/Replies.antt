-- The bytes of a reply: compact JSON (RFC 8259), keys in byte order, texts quoted as `serde_json` quotes them. JSON-RPC 2.0, "Response
-- object" and "Error object"; Language Server Protocol 3.17, "InitializeResult", "Location", "TextEdit", "WorkspaceEdit",
-- "CompletionItem", "PublishDiagnosticsParams", "Diagnostic" and "LogMessageParams".
use Rattle.std.specs.Prelude.{◌≡◌, ℕ, ℤ, List, [], ◌++◌, map, AllPairs, codes, decimal, Option, Some, None, ⊤}
use Rattle.std.specs.Cmp.Lexicographic.{slice_cmp}
use Rattle.std.specs.Fmt.{signed_decimal}
use Rattle.std.specs.List.{join_with_byte}
use Rattle.std.specs.Ordering.{nat_cmp}
use Rattle.std.specs.declared.cmp.Ordering.TheVariants.{Less}
use Rattle.json.specs.Print.{quoted}
use Rattle.lw_text.specs.declared.place.Pos.{Pos}
use Rattle.lw_text.specs.declared.shown.Shown.{Shown}
use Rattle.lw_rpc.specs.Values.{severity}
use Rattle.lw_rpc.specs.declared.message.Id.{Id}
use Rattle.lw_rpc.specs.declared.message.Id.TheVariants.{Whole, Words}
use Rattle.lw_rpc.specs.declared.reply.CompletionItem.{CompletionItem}
use Rattle.lw_rpc.specs.declared.reply.FileEdits.{FileEdits}
use Rattle.lw_rpc.specs.declared.reply.Location.{Location}
use Rattle.lw_rpc.specs.declared.reply.TextEdit.{TextEdit}
use Rattle.lw_rpc.specs.declared.reply.Outcome.{Outcome}
use Rattle.lw_rpc.specs.declared.reply.Outcome.TheVariants.{Nothing, Hello, Spot, Spots, Edits, Offers}
use Rattle.lw_rpc.specs.declared.reply.Reply.{Reply}
use Rattle.lw_rpc.specs.declared.reply.Reply.TheVariants.{Done, Error, Publish, Log}

abbrev pub id_text : Id → List ℕ
id_text (Whole z) = signed_decimal z
id_text (Words text) = quoted text

-- of a fault whose request is not known the id is null
abbrev pub id_or_null_text : Option Id → List ℕ
id_or_null_text (Some id) = id_text id
id_or_null_text None = codes "null"

-- What the server can do, and its name: documents are opened, closed and changed by parts, and each request has its answer.
abbrev pub hello_text : List ℕ
hello_text = codes "{\"capabilities\":{\"completionProvider\":{},\"definitionProvider\":true,\"positionEncoding\":\"utf-16\",\"referencesProvider\":true,\"renameProvider\":true,\"textDocumentSync\":{\"change\":2,\"openClose\":true}},\"serverInfo\":{\"name\":\"langbench\"}}"

-- lines and characters are counted from zero, characters in UTF-16 units
abbrev pub position_text : Pos → List ℕ
position_text place = codes "{\"character\":" ++ decimal place.character ++ codes ",\"line\":" ++ decimal place.line ++ codes "}"

abbrev pub range_text : Pos → Pos → List ℕ
range_text start end = codes "{\"end\":" ++ position_text end ++ codes ",\"start\":" ++ position_text start ++ codes "}"

abbrev pub location_text : Location → List ℕ
location_text location =
    codes "{\"range\":" ++ range_text location.start location.end
    ++ codes ",\"uri\":" ++ quoted location.uri
    ++ codes "}"

-- with a comma between two of them
abbrev pub locations_text : List Location → List ℕ
locations_text locations = codes "[" ++ join_with_byte 44 (map location_text locations) ++ codes "]"

-- a text in place of what stands from the start up to the end
abbrev pub replacement_text : List ℕ → Pos → Pos → List ℕ
replacement_text text start end =
    codes "{\"newText\":" ++ quoted text
    ++ codes ",\"range\":" ++ range_text start end
    ++ codes "}"

abbrev pub edit_text : TextEdit → List ℕ
edit_text edit = replacement_text edit.text edit.start edit.end

-- the edits of a document, under its address
abbrev pub file_text : FileEdits → List ℕ
file_text file = quoted file.uri ++ codes ":[" ++ join_with_byte 44 (map edit_text file.edits) ++ codes "]"

abbrev pub edits_text : List FileEdits → List ℕ
edits_text files = codes "{\"changes\":{" ++ join_with_byte 44 (map file_text files) ++ codes "}}"

-- what may be put in: the text that an editor shows is the one that it puts in
abbrev pub offer_text : CompletionItem → List ℕ
offer_text offer =
    codes "{\"kind\":" ++ decimal offer.kind
    ++ codes ",\"label\":" ++ quoted offer.label
    ++ codes ",\"textEdit\":" ++ replacement_text offer.label offer.start offer.end
    ++ codes "}"

abbrev pub offers_text : List CompletionItem → List ℕ
offers_text offers = codes "[" ++ join_with_byte 44 (map offer_text offers) ++ codes "]"

abbrev pub outcome_text : Outcome → List ℕ
outcome_text Nothing = codes "null"
outcome_text Hello = hello_text
outcome_text (Spot location) = location_text location
outcome_text (Spots locations) = locations_text locations
outcome_text (Edits files) = edits_text files
outcome_text (Offers offers) = offers_text offers

-- the addresses of the documents are in byte order, each once, as the keys of an object are
abbrev pub AreOrdered : List FileEdits → Type 0
AreOrdered files = AllPairs (λ a b. slice_cmp nat_cmp a b ≡ Less) (map (λ (file : FileEdits). file.uri) files)

-- only edits have addresses to be ordered
abbrev pub HasOrderedFiles : Outcome → Type 0
HasOrderedFiles Nothing = ⊤
HasOrderedFiles Hello = ⊤
HasOrderedFiles (Spot location) = ⊤
HasOrderedFiles (Spots locations) = ⊤
HasOrderedFiles (Edits files) = AreOrdered files
HasOrderedFiles (Offers offers) = ⊤

-- where the reply is edits, their addresses are in byte order, each once
abbrev pub HasOrderedEdits : Reply → Type 0
HasOrderedEdits (Done id outcome) = HasOrderedFiles outcome
HasOrderedEdits (Error id code message) = ⊤
HasOrderedEdits (Publish uri at list) = ⊤
HasOrderedEdits (Log message) = ⊤

abbrev pub diagnostic_text : Shown → List ℕ
diagnostic_text shown =
    codes "{\"code\":" ++ decimal shown.code
    ++ codes ",\"message\":" ++ quoted shown.message
    ++ codes ",\"range\":" ++ range_text shown.start shown.end
    ++ codes ",\"severity\":" ++ decimal (severity shown.code)
    ++ codes "}"

-- with a comma between two of them
abbrev pub diagnostics_text : List Shown → List ℕ
diagnostics_text list = join_with_byte 44 (map diagnostic_text list)

-- there only where the document has a version
abbrev pub version_text : Option ℤ → List ℕ
version_text (Some z) = codes ",\"version\":" ++ signed_decimal z
version_text None = []

abbrev pub done_text : Id → Outcome → List ℕ
done_text id outcome = codes "{\"id\":" ++ id_text id ++ codes ",\"jsonrpc\":\"2.0\",\"result\":" ++ outcome_text outcome ++ codes "}"

abbrev pub error_text : Option Id → ℤ → List ℕ → List ℕ
error_text id code message =
    codes "{\"error\":{\"code\":" ++ signed_decimal code
    ++ codes ",\"message\":" ++ quoted message
    ++ codes "},\"id\":" ++ id_or_null_text id
    ++ codes ",\"jsonrpc\":\"2.0\"}"

abbrev pub publish_text : List ℕ → Option ℤ → List Shown → List ℕ
publish_text uri at list =
    codes "{\"jsonrpc\":\"2.0\",\"method\":\"textDocument/publishDiagnostics\",\"params\":{\"diagnostics\":[" ++ diagnostics_text list
    ++ codes "],\"uri\":" ++ quoted uri
    ++ version_text at
    ++ codes "}}"

-- a log message is an error's: type 1
abbrev pub log_text : List ℕ → List ℕ
log_text message =
    codes "{\"jsonrpc\":\"2.0\",\"method\":\"window/logMessage\",\"params\":{\"message\":" ++ quoted message ++ codes ",\"type\":1}}"

unfoldable pub reply_bytes : Reply → List ℕ
reply_bytes (Done id outcome) = done_text id outcome
reply_bytes (Error id code message) = error_text id code message
reply_bytes (Publish uri at list) = publish_text uri at list
reply_bytes (Log message) = log_text message
