-- Which kind of message a JSON value is: a request, a notification, a response, or none of them. JSON-RPC 2.0, "Request object",
-- "Notification" and "Response object", with the ids of the Language Server Protocol 3.17, "Request Message".
use Rattle.std.specs.Prelude.{ℕ, ℤ, List, Bool, true, false, bytes_eq, codes, Option, Some, None, option_map, option_and_then}
use Rattle.serde_json.specs.Data.{Data}
use Rattle.serde_json.specs.Find.{get, as_str, as_number, as_i64}
use Rattle.lw_rpc.specs.declared.message.Id.{Id}
use Rattle.lw_rpc.specs.declared.message.Id.TheVariants.{Whole, Words}

-- A value by its keys: a request with its id and its method, a notification with its method, or a response. Further keys are ignored.
pub data Call : Type 0 where
  request : Id → List ℕ → Call
  notification : List ℕ → Call
  response : Call
  neither : Call

abbrev pub id_from : Option (List ℕ) → Option ℤ → Option Id
id_from (Some text) whole = Some (Words text)
id_from None whole = option_map Whole whole

-- the id that a request may have: a text, or a whole number from -2^63 to 2^63-1
abbrev pub id_of : Data → Option Id
id_of d = id_from (as_str d) (option_and_then as_i64 (as_number d))

-- the member `jsonrpc` says exactly "2.0"
abbrev pub is_version : Option (List ℕ) → Bool
is_version (Some text) = bytes_eq text (codes "2.0")
is_version None = false

-- a request, where its id is one
abbrev pub request_with : Option Id → List ℕ → Call
request_with (Some id) method = request id method
request_with None method = neither

-- a method and a member `id`: a request; a method alone: a notification
abbrev pub named : List ℕ → Option Data → Call
named method (Some id) = request_with (id_of id) method
named method None = notification method

-- with a member `method`: the version must be said, and the method must be a text
abbrev pub with_method : Bool → Option (List ℕ) → Option Data → Call
with_method true (Some method) id = named method id
with_method true None id = neither
with_method false method id = neither

-- without one: a response has `jsonrpc` and `id`, whatever their values
abbrev pub without_method : Option Data → Option Data → Call
without_method (Some version) (Some id) = response
without_method (Some version) None = neither
without_method None id = neither

-- by the members `jsonrpc`, `id` and `method`
abbrev pub call_from : Option Data → Option Data → Option Data → Call
call_from version id (Some method) = with_method (is_version (option_and_then as_str version)) (as_str method) id
call_from version id None = without_method version id

-- A value that is no object has no members.
abbrev pub call_of : Data → Call
call_of d = call_from (get (codes "jsonrpc") d) (get (codes "id") d) (get (codes "method") d)
