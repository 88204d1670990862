-- The message that a body is. JSON (RFC 8259) as `serde_json` reads it, JSON-RPC 2.0, and the Language Server Protocol 3.17 for what each
-- method is and asks for.
use Rattle.std.specs.Prelude.{ℕ, List, bytes_eq, codes, if◌then◌else◌, Option, Some, None, unwrap_or}
use Rattle.std.specs.Str.{is_utf8}
use Rattle.serde_json.specs.Data.{Data}
use Rattle.serde_json.specs.Find.{get}
use Rattle.serde_json.specs.Read.{read}
use Rattle.lw_rpc.specs.Calls.{Call, request, notification, response, neither, call_of}
use Rattle.lw_rpc.specs.Params.{did_open, did_change, did_close, did_change_watched_files, definition_asked, references_asked, rename_asked, completion_asked}
use Rattle.lw_rpc.specs.declared.message.Id.{Id}
use Rattle.lw_rpc.specs.declared.message.Message.{Message}
use Rattle.lw_rpc.specs.declared.message.Message.TheVariants.{BadJson, BadRequest, Response, Unknown, BadParams, Initialize, Shutdown, Exit}

-- The requests. `initialize` and `shutdown` ask nothing of their parameters.
abbrev pub request_message : Id → List ℕ → Option Data → Message
request_message id method params =
    if bytes_eq method (codes "initialize") then Initialize id
    else (if bytes_eq method (codes "shutdown") then Shutdown id
    else (if bytes_eq method (codes "textDocument/definition") then unwrap_or (definition_asked id params) (BadParams (Some id) method)
    else (if bytes_eq method (codes "textDocument/references") then unwrap_or (references_asked id params) (BadParams (Some id) method)
    else (if bytes_eq method (codes "textDocument/rename") then unwrap_or (rename_asked id params) (BadParams (Some id) method)
    else (if bytes_eq method (codes "textDocument/completion") then unwrap_or (completion_asked id params) (BadParams (Some id) method)
    else Unknown (Some id) method)))))

-- The notifications. `exit` is known by its method alone.
abbrev pub notification_message : List ℕ → Option Data → Message
notification_message method params =
    if bytes_eq method (codes "exit") then Exit
    else (if bytes_eq method (codes "textDocument/didOpen") then unwrap_or (did_open params) (BadParams None method)
    else (if bytes_eq method (codes "textDocument/didChange") then unwrap_or (did_change params) (BadParams None method)
    else (if bytes_eq method (codes "textDocument/didClose") then unwrap_or (did_close params) (BadParams None method)
    else (if bytes_eq method (codes "workspace/didChangeWatchedFiles") then unwrap_or (did_change_watched_files params) (BadParams None method)
    else Unknown None method))))

-- by the kind of the message and its parameters
abbrev pub call_message : Call → Option Data → Message
call_message (request id method) params = request_message id method params
call_message (notification method) params = notification_message method params
call_message response params = Response
call_message neither params = BadRequest

abbrev pub value_message : Data → Message
value_message d = call_message (call_of d) (get (codes "params") d)

-- by the value that was read, if any
abbrev pub read_value_message : Option Data → Message
read_value_message (Some d) = value_message d
read_value_message None = BadJson

-- the JSON value of a body, where it is UTF-8 and has one that nests at most 127 deep
abbrev pub value_of_body : List ℕ → Option Data
value_of_body body = if is_utf8 body then read body else None

unfoldable pub message_of : List ℕ → Message
message_of body = read_value_message (value_of_body body)
