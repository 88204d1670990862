-- What the life of a session makes of a message, before its effect is looked at. The first of these that applies: what is no JSON, and what
-- is no message; a response; `exit`; what comes before `initialize`; what comes after `shutdown`; a second `initialize`; what is not known;
-- parameters of another shape than the method asks for.
-- Language Server Protocol 3.17, "Server lifecycle" and "ErrorCodes"; JSON-RPC 2.0, "Error object".
use Rattle.std.specs.Prelude.{ℕ, ℤ, List, [], ◌∷◌, ◌++◌, true, ◌&&◌, not, if◌then◌else◌, Option, Some, None, codes}
use Rattle.lw_rpc.specs.declared.message.Id.{Id}
use Rattle.lw_rpc.specs.declared.message.Message.{Message}
use Rattle.lw_rpc.specs.declared.message.Message.TheVariants.{BadJson, BadRequest, Response, Unknown, BadParams, Initialize, Shutdown, Exit, DidOpen, DidChange, DidClose, DidChangeWatchedFiles, Definition, References, Rename, Completion}
use Rattle.lw_rpc.specs.declared.reply.Outcome.TheVariants.{Nothing, Hello}
use Rattle.lw_rpc.specs.declared.reply.Reply.{Reply}
use Rattle.lw_rpc.specs.declared.reply.Reply.TheVariants.{Done, Error, Log}
use Rattle.lw_conversation.specs.declared.ended.Ended.{Ended}
use Rattle.lw_conversation.specs.declared.error_code.TheConstants.{PARSE_ERROR, INVALID_REQUEST, METHOD_NOT_FOUND, INVALID_PARAMS, SERVER_NOT_INITIALIZED}
use Rattle.lw_conversation.specs.declared.ended.Ended.TheVariants.{No, Clean, Early}
use Rattle.lw_conversation.specs.declared.phase.Phase.{Phase}

-- A message stops at the gate: it is answered with these replies, the session has this phase then, and it is over or not. Or it passes, and has
-- its effect on the documents.
pub data Passage : Type 0 where
  Stops : List Reply → Phase → Ended → Passage
  Passes : Passage

-- the session goes on as it is, and this is replied
abbrev pub replies_at : Phase → List Reply → Passage
replies_at phase replies = Stops replies phase No

-- an error, for a request whose id is known or not
abbrev pub refuses : Phase → Option Id → ℤ → List ℕ → Passage
refuses phase id code message = replies_at phase (Error id code message ∷ [])

abbrev pub parse_error : Phase → Passage
parse_error phase = refuses phase None PARSE_ERROR (codes "parse error")

abbrev pub invalid_request : Phase → Option Id → Passage
invalid_request phase id = refuses phase id INVALID_REQUEST (codes "invalid request")

abbrev pub method_not_found : Phase → Id → Passage
method_not_found phase id = refuses phase (Some id) METHOD_NOT_FOUND (codes "method not found")

abbrev pub invalid_params : Phase → Id → Passage
invalid_params phase id = refuses phase (Some id) INVALID_PARAMS (codes "invalid params")

abbrev pub not_initialized : Phase → Id → Passage
not_initialized phase id = refuses phase (Some id) SERVER_NOT_INITIALIZED (codes "server not initialized")

-- a request is looked at between `initialize` and `shutdown` alone
abbrev pub request : Phase → Id → Passage → Passage
request phase id passage = if not phase.initialized then not_initialized phase id else if phase.shut_down then invalid_request phase (Some id) else passage

-- so is a notification, which is dropped elsewhere
abbrev pub notification : Phase → Passage → Passage
notification phase passage = if phase.initialized && not phase.shut_down then passage else replies_at phase []

abbrev pub gate : Phase → Message → Passage
gate phase BadJson = parse_error phase
gate phase BadRequest = invalid_request phase None
gate phase Response = replies_at phase []
gate phase Exit = Stops [] phase (if phase.shut_down then Clean else Early)
gate phase (Initialize id) = if phase.initialized then invalid_request phase (Some id) else Stops (Done id Hello ∷ []) (record phase { initialized = true }) No
gate phase (Shutdown id) = request phase id (Stops (Done id Nothing ∷ []) (record phase { shut_down = true }) No)
gate phase (Unknown (Some id) method) = request phase id (method_not_found phase id)
gate phase (Unknown None method) = replies_at phase []
gate phase (BadParams (Some id) method) = request phase id (invalid_params phase id)
gate phase (BadParams None method) = notification phase (replies_at phase (Log (codes "bad params: " ++ method) ∷ []))
gate phase (DidOpen address version text) = notification phase Passes
gate phase (DidChange address version changes) = notification phase Passes
gate phase (DidClose address) = notification phase Passes
gate phase (DidChangeWatchedFiles changes) = notification phase Passes
gate phase (Definition id address at) = request phase id Passes
gate phase (References id address at declaration) = request phase id Passes
gate phase (Rename id address at new) = request phase id Passes
gate phase (Completion id address at) = request phase id Passes

-- the phase behind the gate
abbrev pub phase_behind : Phase → Passage → Phase
phase_behind phase (Stops replies now ended) = now
phase_behind phase Passes = phase
