-- The message that a body is, is the one whose rule it meets.
use Rattle.std.proofs.Common.{◌≡◌, ℕ, ℤ, List, Bool, true, false, codes, Option, Some, None, refl, ap, sym, subst, ◌∙◌, inl, inr, option_map, option_and_then, unwrap_or, if◌then◌else◌}
use Rattle.std.proofs.lemmas.Bool.{false_from_ne_true}
use Rattle.std.proofs.lemmas.Slice.Eq.{bytes_eq-Decides}
use Rattle.std.proofs.lemmas.Str.{IsUtf8-from_is_utf8, is_utf8-from_IsUtf8}
use Rattle.std.specs.Prelude.{IsSome}
use Rattle.std.specs.Str.{bytes_eq, is_utf8}
use Rattle.serde_json.specs.Data.{Data, Num, null, boolean, number, string, array, object, Items}
use Rattle.serde_json.specs.Find.{get, as_str, as_i64}
use Rattle.serde_json.specs.Read.{read}
use Rattle.lw_rpc.specs.Calls.{Call, request, notification, neither, is_version, id_of, id_from, request_with, named, with_method, without_method, call_from, call_of}
use Rattle.lw_rpc.specs.Calls as call
use Rattle.lw_rpc.specs.Causes.{HasValue, IsId, text_id, whole_id, HasId, IsCall, IsResponse, IsKnown, Opens, IsChange, Edits, IsMessage, bad_json, bad_request, response, unknown, initialize, shutdown, asks_definition, not_definition, asks_references, not_references, asks_rename, not_rename, asks_completion, not_completion, exit, opened, not_opened, edited, not_edited, document_closed, not_document_closed, files_changed, not_files_changed}
use Rattle.lw_rpc.specs.Messages.{call_message, value_message, read_value_message, value_of_body, message_of}
use Rattle.lw_rpc.specs.Params as params
use Rattle.lw_rpc.specs.ChangeParams.{change_of, changes_of}
use Rattle.lw_rpc.specs.Params.{did_open, did_change, did_close, did_change_watched_files, definition_asked, references_asked, rename_asked, completion_asked, member_at, text_at, whole_at, changes_at}
use Rattle.lw_text.specs.declared.change.Change.{Change}
use Rattle.lw_rpc.proofs.AskedLemmas.{asked_at_place-AsksAtPlace, references_asked-AsksReferences, rename_asked-AsksRename, definition-met, references-met, rename-met, completion-met, no_place, no_references, no_rename}
use Rattle.lw_rpc.proofs.ChangeLemmas.{change_of-IsChange, IsChange-change_of}
use Rattle.lw_rpc.proofs.ListedLemmas.{items_by-AreEach, AreEach-items_by}
use Rattle.lw_rpc.proofs.Found.{str_of, whole_of, list_of, inside, found_in, none-and-some}
use Rattle.lw_rpc.proofs.NotificationLemmas.{did_close-ClosesDocument, did_change_watched_files-TellsOfFiles, did_close-met, did_change_watched_files-met, no_close, no_file_changes}
use Rattle.lw_rpc.specs.declared.message.Id.{Id}
use Rattle.lw_rpc.specs.declared.message.Id.TheVariants.{Whole, Words}
use Rattle.lw_rpc.specs.declared.message.Message.{Message}
use Rattle.lw_rpc.specs.declared.message.Message.TheVariants.{BadJson, BadRequest, Response, Unknown, BadParams, Initialize, Shutdown, Definition, References, Rename, Completion, Exit, DidOpen, DidChange, DidClose, DidChangeWatchedFiles}

false-and-true : {b : Bool} → b ≡ false → b ≡ true → ⊥
false-and-true e f = absurd (cc)

neither-and-response : {c : Call} → c ≡ neither → c ≡ call.response → ⊥
neither-and-response e f = absurd (cc)

pub message_of-text : (body : List ℕ) → is_utf8 body ≡ true → message_of body ≡ read_value_message (read body)
unfolding message_of
message_of-text body is_text = rw is_text refl

pub message_of-no_text : (body : List ℕ) → is_utf8 body ≡ false → message_of body ≡ BadJson
unfolding message_of
message_of-no_text body no_text = rw no_text refl

-- ---- from a rule to the definition

pub other_text : (a b : List ℕ) → bytes_eq a b ≡ false → ¬ (a ≡ b)
other_text a b other same = false-and-true other ((bytes_eq-Decides a b).1 same)

bytes_eq-other : (a b : List ℕ) → ¬ (a ≡ b) → bytes_eq a b ≡ false
bytes_eq-other a b other = false_from_ne_true _ (λ same. other ((bytes_eq-Decides a b).0 same))

id_of-IsId : {w : Data} {id : Id} → IsId w id → id_of w ≡ Some id
id_of-IsId text_id = refl
id_of-IsId (whole_id whole) = ap (option_map Whole) whole

-- the call that stands for a request or a notification
abbrev the_call : Option Id → List ℕ → Call
the_call (Some id) method = request id method
the_call None method = notification method

call_of-IsCall : (d : Data) (id : Option Id) (method : List ℕ) → IsCall d id method → call_of d ≡ the_call id method
call_of-IsCall d (Some id) method is = rw (is.says_version, is.has_id.1, is.has_method, id_of-IsId is.has_id.2) refl
call_of-IsCall d None method is = rw (is.says_version, is.has_id, is.has_method) refl

without_method-both : (version id : Option Data) → IsSome version → IsSome id → without_method version id ≡ call.response
without_method-both (Some version) (Some id) a b = refl
without_method-both (Some version) None a b = cc
without_method-both None id a b = cc

call_of-IsResponse : (d : Data) → IsResponse d → call_of d ≡ call.response
call_of-IsResponse d is = rw is.no_method (without_method-both _ _ is.has_version is.has_id)

value_of_body-HasValue : (body : List ℕ) (d : Data) → HasValue body d → value_of_body body ≡ Some d
value_of_body-HasValue body d has =
    let yes : is_utf8 body ≡ true = is_utf8-from_IsUtf8 _ has.utf8 in
    rw yes has.value

did_open-Opens : (d : Data) (uri : List ℕ) (version : ℤ) (text : List ℕ) → Opens d uri version text → did_open (get (codes "params") d) ≡ Some (DidOpen uri version text)
did_open-Opens d uri version text is = rw (is.has_params, is.has_document, is.has_uri, is.has_version, is.has_text, is.is_whole) refl

did_change-Edits : (d : Data) (uri : List ℕ) (version : ℤ) (changes : List Change) → Edits d uri version changes → did_change (get (codes "params") d) ≡ Some (DidChange uri version changes)
did_change-Edits d uri version changes is =
    rw (is.has_params, is.has_document, is.has_uri, is.has_version, is.is_whole, is.has_changes, items_by-AreEach change_of IsChange change_of-IsChange is.values changes is.are_changes) refl

value_message-call : (d : Data) (id : Option Id) (method : List ℕ) → IsCall d id method → value_message d ≡ call_message (the_call id method) (get (codes "params") d)
value_message-call d id method is = ap (λ c. call_message c (get (codes "params") d)) (call_of-IsCall d id method is)

message_of-value : (body : List ℕ) (d : Data) → HasValue body d → message_of body ≡ value_message d
unfolding message_of
message_of-value body d has = ap read_value_message (value_of_body-HasValue body d has)

unknown_message : (id : Option Id) (method : List ℕ) (params : Option Data) → ¬ IsKnown id method → call_message (the_call id method) params ≡ Unknown id method
unknown_message (Some id) method params not_known =
    let first : bytes_eq method (codes "initialize") ≡ false = bytes_eq-other _ _ (λ e. not_known (inl e)) in
    let second : bytes_eq method (codes "shutdown") ≡ false = bytes_eq-other _ _ (λ e. not_known (inr (inl e))) in
    let third : bytes_eq method (codes "textDocument/definition") ≡ false = bytes_eq-other _ _ (λ e. not_known (inr (inr (inl e)))) in
    let fourth : bytes_eq method (codes "textDocument/references") ≡ false = bytes_eq-other _ _ (λ e. not_known (inr (inr (inr (inl e))))) in
    let fifth : bytes_eq method (codes "textDocument/rename") ≡ false = bytes_eq-other _ _ (λ e. not_known (inr (inr (inr (inr (inl e)))))) in
    let sixth : bytes_eq method (codes "textDocument/completion") ≡ false = bytes_eq-other _ _ (λ e. not_known (inr (inr (inr (inr (inr e)))))) in
    rw (first, second, third, fourth, fifth, sixth) refl
unknown_message None method params not_known =
    let first : bytes_eq method (codes "exit") ≡ false = bytes_eq-other _ _ (λ e. not_known (inl e)) in
    let second : bytes_eq method (codes "textDocument/didOpen") ≡ false = bytes_eq-other _ _ (λ e. not_known (inr (inl e))) in
    let third : bytes_eq method (codes "textDocument/didChange") ≡ false = bytes_eq-other _ _ (λ e. not_known (inr (inr (inl e)))) in
    let fourth : bytes_eq method (codes "textDocument/didClose") ≡ false = bytes_eq-other _ _ (λ e. not_known (inr (inr (inr (inl e))))) in
    let fifth : bytes_eq method (codes "workspace/didChangeWatchedFiles") ≡ false = bytes_eq-other _ _ (λ e. not_known (inr (inr (inr (inr e))))) in
    rw (first, second, third, fourth, fifth) refl

-- no parameters say what has no method
pub without_method-params : (version id params : Option Data) → call_message (without_method version id) params ≡ call_message (without_method version id) None
without_method-params (Some version) (Some id) params = refl
without_method-params (Some version) None params = refl
without_method-params None id params = refl

-- ---- from the definition to a rule

said_version : (said : Option (List ℕ)) → is_version said ≡ true → said ≡ Some (codes "2.0")
said_version (Some text) same = ap Some ((bytes_eq-Decides text (codes "2.0")).0 same)
said_version None same = cc

version_of : (found : Option Data) → is_version (option_and_then as_str found) ≡ true → found ≡ Some (string (codes "2.0"))
version_of found same = str_of found (codes "2.0") (said_version _ same)

IsId-whole : (n : Num) (z : Option ℤ) (id : Id) → as_i64 n ≡ z → option_map Whole z ≡ Some id → IsId (number n) id
IsId-whole n (Some z) id is same = let e : Whole z ≡ id = cc in subst (λ own. IsId (number n) own) e (whole_id is)
IsId-whole n None id is same = absurd (cc)

IsId-id_of : (w : Data) (id : Id) → id_of w ≡ Some id → IsId w id
IsId-id_of null id same = absurd (cc)
IsId-id_of (boolean b) id same = absurd (cc)
IsId-id_of (number n) id same = IsId-whole n (as_i64 n) id refl same
IsId-id_of (string text) id same = let e : Words text ≡ id = cc in subst (λ own. IsId (string text) own) e text_id
IsId-id_of (array items) id same = absurd (cc)
IsId-id_of (object _) id same = absurd (cc)

-- the member `id` is the id, or there is none
abbrev IsOwn : Option Data → Option Id → Type 0
IsOwn found (Some id) = (w : Data) × (found ≡ Some w) × IsId w id
IsOwn found None = found ≡ None

neither-the_call : (own : Option Id) (name : List ℕ) → neither ≡ the_call own name → ⊥
neither-the_call (Some id) name same = absurd (cc)
neither-the_call None name same = absurd (cc)

response-the_call : (own : Option Id) (name : List ℕ) → call.response ≡ the_call own name → ⊥
response-the_call (Some id) name same = absurd (cc)
response-the_call None name same = absurd (cc)

request_with-parts : (w : Data) (found : Option Id) (method : List ℕ) (own : Option Id) (name : List ℕ) → id_of w ≡ found → request_with found method ≡ the_call own name → (method ≡ name) × IsOwn (Some w) own
request_with-parts w (Some id) method (Some own) name is same =
    let e : id ≡ own = cc in
    (cc, (w, refl, IsId-id_of w own (is ∙ ap Some e)))
request_with-parts w (Some id) method None name is same = absurd (cc)
request_with-parts w None method own name is same = absurd (neither-the_call own name same)

named-parts : (method : List ℕ) (id : Option Data) (own : Option Id) (name : List ℕ) → named method id ≡ the_call own name → (method ≡ name) × IsOwn id own
named-parts method (Some w) own name same = request_with-parts w (id_of w) method own name refl same
named-parts method None (Some id) name same = absurd (cc)
named-parts method None None name same = (cc, refl)

with_method-parts : (right : Bool) (method : Option (List ℕ)) (id : Option Data) (own : Option Id) (name : List ℕ) → with_method right method id ≡ the_call own name → (right ≡ true) × (method ≡ Some name) × IsOwn id own
with_method-parts true (Some method) id own name same =
    let parts : (method ≡ name) × IsOwn id own = named-parts method id own name same in
    (refl, ap Some parts.0, parts.1)
with_method-parts true None id own name same = absurd (neither-the_call own name same)
with_method-parts false method id own name same = absurd (neither-the_call own name same)

without_method-the_call : (version id : Option Data) (own : Option Id) (name : List ℕ) → without_method version id ≡ the_call own name → ⊥
without_method-the_call (Some version) (Some id) own name same = response-the_call own name same
without_method-the_call (Some version) None own name same = neither-the_call own name same
without_method-the_call None id own name same = neither-the_call own name same

call_from-parts : (version id method : Option Data) (own : Option Id) (name : List ℕ) → call_from version id method ≡ the_call own name → (version ≡ Some (string (codes "2.0"))) × (method ≡ Some (string name)) × IsOwn id own
call_from-parts version id (Some w) own name same =
    let parts : (is_version (option_and_then as_str version) ≡ true) × (as_str w ≡ Some name) × IsOwn id own =
    with_method-parts (is_version (option_and_then as_str version)) (as_str w) id own name same in
    (version_of version parts.0, str_of (Some w) name parts.1, parts.2)
call_from-parts version id None own name same = absurd (without_method-the_call version id own name same)

HasId-IsOwn : (d : Data) (own : Option Id) → IsOwn (get (codes "id") d) own → HasId d own
HasId-IsOwn d (Some id) is = is
HasId-IsOwn d None is = is

IsCall-call_of : (d : Data) (own : Option Id) (name : List ℕ) → call_of d ≡ the_call own name → IsCall d own name
IsCall-call_of d own name same =
    let parts : (get (codes "jsonrpc") d ≡ Some (string (codes "2.0"))) × (get (codes "method") d ≡ Some (string name)) × IsOwn (get (codes "id") d) own =
    call_from-parts (get (codes "jsonrpc") d) (get (codes "id") d) (get (codes "method") d) own name same in
    record { says_version = parts.0; has_id = HasId-IsOwn d own parts.2; has_method = parts.1 }

request_with-response : (id : Option Id) (method : List ℕ) → request_with id method ≡ call.response → ⊥
request_with-response (Some id) method same = absurd (cc)
request_with-response None method same = absurd (cc)

with_method-response : (right : Bool) (method : Option (List ℕ)) (id : Option Data) → with_method right method id ≡ call.response → ⊥
with_method-response true (Some method) (Some w) same = request_with-response (id_of w) method same
with_method-response true (Some method) None same = absurd (cc)
with_method-response true None id same = absurd (cc)
with_method-response false method id same = absurd (cc)

call_from-response : (version id method : Option Data) → call_from version id method ≡ call.response → IsSome version × IsSome id × (method ≡ None)
call_from-response version id (Some w) same = absurd (with_method-response (is_version (option_and_then as_str version)) (as_str w) id same)
call_from-response (Some version) (Some id) None same = (refl, refl, refl)
call_from-response (Some version) None None same = absurd (cc)
call_from-response None id None same = absurd (cc)

IsResponse-call_of : (d : Data) → call_of d ≡ call.response → IsResponse d
IsResponse-call_of d same =
    let parts : IsSome (get (codes "jsonrpc") d) × IsSome (get (codes "id") d) × (get (codes "method") d ≡ None) =
    call_from-response (get (codes "jsonrpc") d) (get (codes "id") d) (get (codes "method") d) same in
    record { has_version = parts.0; has_id = parts.1; no_method = parts.2 }

opened-parts : (uri : Option (List ℕ)) (version : Option ℤ) (text : Option (List ℕ)) (m : Message) → params.opened uri version text ≡ Some m
    → (u : List ℕ) × (v : ℤ) × (t : List ℕ) × (uri ≡ Some u) × (version ≡ Some v) × (text ≡ Some t) × (m ≡ DidOpen u v t)
opened-parts (Some u) (Some v) (Some t) m same = (u, v, t, refl, refl, refl, cc)
opened-parts (Some u) (Some v) None m same = absurd (cc)
opened-parts (Some u) None text m same = absurd (cc)
opened-parts None version text m same = absurd (cc)

Opens-did_open : (d : Data) (m : Message) → did_open (get (codes "params") d) ≡ Some m → (u : List ℕ) × (v : ℤ) × (t : List ℕ) × (m ≡ DidOpen u v t) × Opens d u v t
Opens-did_open d m same =
    let document : Option Data = member_at (codes "textDocument") (get (codes "params") d) in
    let parts : (u : List ℕ) × (v : ℤ) × (t : List ℕ) × (text_at (codes "uri") document ≡ Some u) × (whole_at (codes "version") document ≡ Some v) × (text_at (codes "text") document ≡ Some t) × (m ≡ DidOpen u v t) =
    opened-parts (text_at (codes "uri") document) (whole_at (codes "version") document) (text_at (codes "text") document) m same in
    let uri : (w : Data) × (document ≡ Some w) × (get (codes "uri") w ≡ Some (string parts.0)) =
    inside (get (codes "uri")) document (string parts.0) (str_of _ _ parts.3) in
    let holder : (w : Data) × (get (codes "params") d ≡ Some w) × (get (codes "textDocument") w ≡ Some uri.0) =
    inside (get (codes "textDocument")) (get (codes "params") d) uri.0 uri.1 in
    let version : (n : Num) × (member_at (codes "version") document ≡ Some (number n)) × (as_i64 n ≡ Some parts.1) = whole_of _ _ parts.4 in
    let text : member_at (codes "text") document ≡ Some (string parts.2) = str_of _ _ parts.5 in (
      parts.0,
      parts.1,
      parts.2,
      parts.6,
      record {
        params = holder.0;
        document = uri.0;
        number_of = version.0;
        has_params = holder.1;
        has_document = holder.2;
        has_uri = uri.2;
        has_version = found_in document uri.0 (number version.0) (codes "version") uri.1 version.1;
        is_whole = version.2;
        has_text = found_in document uri.0 (string parts.2) (codes "text") uri.1 text;
      },
    )

edited-parts : (uri : Option (List ℕ)) (version : Option ℤ) (changes : Option (List Change)) (m : Message) → params.edit_by uri version changes ≡ Some m
    → (u : List ℕ) × (v : ℤ) × (c : List Change) × (uri ≡ Some u) × (version ≡ Some v) × (changes ≡ Some c) × (m ≡ DidChange u v c)
edited-parts (Some u) (Some v) (Some c) m same = (u, v, c, refl, refl, refl, cc)
edited-parts (Some u) (Some v) None m same = absurd (cc)
edited-parts (Some u) None changes m same = absurd (cc)
edited-parts None version changes m same = absurd (cc)

Edits-did_change : (d : Data) (m : Message) → did_change (get (codes "params") d) ≡ Some m → (u : List ℕ) × (v : ℤ) × (c : List Change) × (m ≡ DidChange u v c) × Edits d u v c
Edits-did_change d m same =
    let given : Option Data = get (codes "params") d in
    let document : Option Data = member_at (codes "textDocument") given in
    let parts : (u : List ℕ) × (v : ℤ) × (c : List Change) × (text_at (codes "uri") document ≡ Some u) × (whole_at (codes "version") document ≡ Some v) × (changes_at (codes "contentChanges") given ≡ Some c) × (m ≡ DidChange u v c) =
    edited-parts (text_at (codes "uri") document) (whole_at (codes "version") document) (changes_at (codes "contentChanges") given) m same in
    let uri : (w : Data) × (document ≡ Some w) × (get (codes "uri") w ≡ Some (string parts.0)) =
    inside (get (codes "uri")) document (string parts.0) (str_of _ _ parts.3) in
    let holder : (w : Data) × (given ≡ Some w) × (get (codes "textDocument") w ≡ Some uri.0) =
    inside (get (codes "textDocument")) given uri.0 uri.1 in
    let version : (n : Num) × (member_at (codes "version") document ≡ Some (number n)) × (as_i64 n ≡ Some parts.1) = whole_of _ _ parts.4 in
    let list : (values : Items) × (member_at (codes "contentChanges") given ≡ Some (array values)) × (changes_of values ≡ Some parts.2) =
    list_of changes_of (member_at (codes "contentChanges") given) parts.2 parts.5 in (
      parts.0,
      parts.1,
      parts.2,
      parts.6,
      record {
        params = holder.0;
        document = uri.0;
        number_of = version.0;
        values = list.0;
        has_params = holder.1;
        has_document = holder.2;
        has_uri = uri.2;
        has_version = found_in document uri.0 (number version.0) (codes "version") uri.1 version.1;
        is_whole = version.2;
        has_changes = found_in given holder.0 (array list.0) (codes "contentChanges") holder.1 list.1;
        are_changes = AreEach-items_by change_of IsChange IsChange-change_of list.0 parts.2 list.2;
      },
    )

-- ---- the rule that a body meets

module _ (body : List ℕ) (d : Data) (has : HasValue body d) where
  question-met : (id : Id) (method : List ℕ) (third fourth fifth sixth : Bool) → IsCall d (Some id) method → bytes_eq method (codes "initialize") ≡ false → bytes_eq method (codes "shutdown") ≡ false
      → bytes_eq method (codes "textDocument/definition") ≡ third → bytes_eq method (codes "textDocument/references") ≡ fourth → bytes_eq method (codes "textDocument/rename") ≡ fifth
      → bytes_eq method (codes "textDocument/completion") ≡ sixth
      → IsMessage body (if third then unwrap_or (definition_asked id (get (codes "params") d)) (BadParams (Some id) method)
      else (if fourth then unwrap_or (references_asked id (get (codes "params") d)) (BadParams (Some id) method)
      else (if fifth then unwrap_or (rename_asked id (get (codes "params") d)) (BadParams (Some id) method)
      else (if sixth then unwrap_or (completion_asked id (get (codes "params") d)) (BadParams (Some id) method) else Unknown (Some id) method))))
  question-met id method true fourth fifth sixth is e f g h k l =
      let same : method ≡ codes "textDocument/definition" = (bytes_eq-Decides _ _).0 g in
      subst (λ name. IsMessage body (unwrap_or (definition_asked id (get (codes "params") d)) (BadParams (Some id) name))) (sym same)
      (definition-met body d id has (definition_asked id (get (codes "params") d)) (subst (IsCall d (Some id)) same is) refl)
  question-met id method false true fifth sixth is e f g h k l =
      let same : method ≡ codes "textDocument/references" = (bytes_eq-Decides _ _).0 h in
      subst (λ name. IsMessage body (unwrap_or (references_asked id (get (codes "params") d)) (BadParams (Some id) name))) (sym same)
      (references-met body d id has (references_asked id (get (codes "params") d)) (subst (IsCall d (Some id)) same is) refl)
  question-met id method false false true sixth is e f g h k l =
      let same : method ≡ codes "textDocument/rename" = (bytes_eq-Decides _ _).0 k in
      subst (λ name. IsMessage body (unwrap_or (rename_asked id (get (codes "params") d)) (BadParams (Some id) name))) (sym same)
      (rename-met body d id has (rename_asked id (get (codes "params") d)) (subst (IsCall d (Some id)) same is) refl)
  question-met id method false false false true is e f g h k l =
      let same : method ≡ codes "textDocument/completion" = (bytes_eq-Decides _ _).0 l in
      subst (λ name. IsMessage body (unwrap_or (completion_asked id (get (codes "params") d)) (BadParams (Some id) name))) (sym same)
      (completion-met body d id has (completion_asked id (get (codes "params") d)) (subst (IsCall d (Some id)) same is) refl)
  question-met id method false false false false is e f g h k l =
      unknown d has is
      (λ known. elim known [
        | inl same ↦ false-and-true e ((bytes_eq-Decides _ _).1 same)
        | inr known ↦ elim known [
          | inl same ↦ false-and-true f ((bytes_eq-Decides _ _).1 same)
          | inr known ↦ elim known [
            | inl same ↦ false-and-true g ((bytes_eq-Decides _ _).1 same)
            | inr known ↦ elim known [
              | inl same ↦ false-and-true h ((bytes_eq-Decides _ _).1 same)
              | inr known ↦ elim known [
                | inl same ↦ false-and-true k ((bytes_eq-Decides _ _).1 same)
                | inr same ↦ false-and-true l ((bytes_eq-Decides _ _).1 same)
              ]
            ]
          ]
        ]
      ])

  request-met : (id : Id) (method : List ℕ) (first second : Bool) → IsCall d (Some id) method → bytes_eq method (codes "initialize") ≡ first → bytes_eq method (codes "shutdown") ≡ second
      → IsMessage body (if first then Initialize id else (if second then Shutdown id else
      (if bytes_eq method (codes "textDocument/definition") then unwrap_or (definition_asked id (get (codes "params") d)) (BadParams (Some id) method)
      else (if bytes_eq method (codes "textDocument/references") then unwrap_or (references_asked id (get (codes "params") d)) (BadParams (Some id) method)
      else (if bytes_eq method (codes "textDocument/rename") then unwrap_or (rename_asked id (get (codes "params") d)) (BadParams (Some id) method)
      else (if bytes_eq method (codes "textDocument/completion") then unwrap_or (completion_asked id (get (codes "params") d)) (BadParams (Some id) method) else Unknown (Some id) method))))))
  request-met id method true second is e f = initialize d has (subst (IsCall d (Some id)) ((bytes_eq-Decides _ _).0 e) is)
  request-met id method false true is e f = shutdown d has (subst (IsCall d (Some id)) ((bytes_eq-Decides _ _).0 f) is)
  request-met id method false false is e f = question-met id method _ _ _ _ is e f refl refl refl refl

  did_open-met : (found : Option Message) → IsCall d None (codes "textDocument/didOpen") → did_open (get (codes "params") d) ≡ found
      → IsMessage body (unwrap_or found (BadParams None (codes "textDocument/didOpen")))
  did_open-met (Some m) is e =
      let parts : (u : List ℕ) × (v : ℤ) × (t : List ℕ) × (m ≡ DidOpen u v t) × Opens d u v t = Opens-did_open d m e in
      subst (IsMessage body) (sym parts.3) (opened d has is parts.4)
  did_open-met None is e = not_opened d has is (λ u v t opens. none-and-some e (did_open-Opens d u v t opens))

  did_change-met : (found : Option Message) → IsCall d None (codes "textDocument/didChange") → did_change (get (codes "params") d) ≡ found
      → IsMessage body (unwrap_or found (BadParams None (codes "textDocument/didChange")))
  did_change-met (Some m) is e =
      let parts : (u : List ℕ) × (v : ℤ) × (c : List Change) × (m ≡ DidChange u v c) × Edits d u v c = Edits-did_change d m e in
      subst (IsMessage body) (sym parts.3) (edited d has is parts.4)
  did_change-met None is e = not_edited d has is (λ u v c edits. none-and-some e (did_change-Edits d u v c edits))

  notification-met : (method : List ℕ) (first second third fourth fifth : Bool) → IsCall d None method → bytes_eq method (codes "exit") ≡ first → bytes_eq method (codes "textDocument/didOpen") ≡ second
      → bytes_eq method (codes "textDocument/didChange") ≡ third → bytes_eq method (codes "textDocument/didClose") ≡ fourth → bytes_eq method (codes "workspace/didChangeWatchedFiles") ≡ fifth
      → IsMessage body (if first then Exit else (if second then unwrap_or (did_open (get (codes "params") d)) (BadParams None method)
      else (if third then unwrap_or (did_change (get (codes "params") d)) (BadParams None method)
      else (if fourth then unwrap_or (did_close (get (codes "params") d)) (BadParams None method)
      else (if fifth then unwrap_or (did_change_watched_files (get (codes "params") d)) (BadParams None method) else Unknown None method)))))
  notification-met method true second third fourth fifth is e f g h k = exit d has (subst (IsCall d None) ((bytes_eq-Decides _ _).0 e) is)
  notification-met method false true third fourth fifth is e f g h k =
      let same : method ≡ codes "textDocument/didOpen" = (bytes_eq-Decides _ _).0 f in
      subst (λ name. IsMessage body (unwrap_or (did_open (get (codes "params") d)) (BadParams None name))) (sym same)
      (did_open-met (did_open (get (codes "params") d)) (subst (IsCall d None) same is) refl)
  notification-met method false false true fourth fifth is e f g h k =
      let same : method ≡ codes "textDocument/didChange" = (bytes_eq-Decides _ _).0 g in
      subst (λ name. IsMessage body (unwrap_or (did_change (get (codes "params") d)) (BadParams None name))) (sym same)
      (did_change-met (did_change (get (codes "params") d)) (subst (IsCall d None) same is) refl)
  notification-met method false false false true fifth is e f g h k =
      let same : method ≡ codes "textDocument/didClose" = (bytes_eq-Decides _ _).0 h in
      subst (λ name. IsMessage body (unwrap_or (did_close (get (codes "params") d)) (BadParams None name))) (sym same)
      (did_close-met body d has (did_close (get (codes "params") d)) (subst (IsCall d None) same is) refl)
  notification-met method false false false false true is e f g h k =
      let same : method ≡ codes "workspace/didChangeWatchedFiles" = (bytes_eq-Decides _ _).0 k in
      subst (λ name. IsMessage body (unwrap_or (did_change_watched_files (get (codes "params") d)) (BadParams None name))) (sym same)
      (did_change_watched_files-met body d has (did_change_watched_files (get (codes "params") d)) (subst (IsCall d None) same is) refl)
  notification-met method false false false false false is e f g h k =
      unknown d has is
      (λ known. elim known [
        | inl same ↦ false-and-true e ((bytes_eq-Decides _ _).1 same)
        | inr known ↦ elim known [
          | inl same ↦ false-and-true f ((bytes_eq-Decides _ _).1 same)
          | inr known ↦ elim known [
            | inl same ↦ false-and-true g ((bytes_eq-Decides _ _).1 same)
            | inr known ↦ elim known [
              | inl same ↦ false-and-true h ((bytes_eq-Decides _ _).1 same)
              | inr same ↦ false-and-true k ((bytes_eq-Decides _ _).1 same)
            ]
          ]
        ]
      ])

  call-met : (c : Call) → call_of d ≡ c → IsMessage body (call_message c (get (codes "params") d))
  call-met (request id method) same = request-met id method _ _ (IsCall-call_of d (Some id) method same) refl refl
  call-met (notification method) same = notification-met method _ _ _ _ _ (IsCall-call_of d None method same) refl refl refl refl refl
  call-met call.response same = response d has (IsResponse-call_of d same)
  call-met neither same = bad_request d has (λ is. neither-and-response same (call_of-IsResponse d is)) (λ id method is. neither-the_call id method (sym same ∙ call_of-IsCall d id method is))

IsMessage-read : (body : List ℕ) (text : Bool) (found : Option Data) → is_utf8 body ≡ text → read body ≡ found → IsMessage body (read_value_message (if text then found else None))
IsMessage-read body true (Some d) u r = call-met body d (record { utf8 = IsUtf8-from_is_utf8 _ u; value = r }) (call_of d) refl
IsMessage-read body true None u r = bad_json (λ d has. none-and-some r has.value)
IsMessage-read body false found u r = bad_json (λ d has. false-and-true u (is_utf8-from_IsUtf8 _ has.utf8))

pub IsMessage-message_of : (body : List ℕ) → IsMessage body (message_of body)
unfolding message_of
IsMessage-message_of body = IsMessage-read body (is_utf8 body) (read body) refl refl

-- ---- the only one

no_value : (body : List ℕ) (text : Bool) (found : Option Data) → is_utf8 body ≡ text → read body ≡ found → ((d : Data) → ¬ HasValue body d) → read_value_message (if text then found else None) ≡ BadJson
no_value body true (Some d) u r none_has = absurd (none_has d (record { utf8 = IsUtf8-from_is_utf8 _ u; value = r }))
no_value body true None u r none_has = refl
no_value body false found u r none_has = refl

no_call : (d : Data) (c : Call) → call_of d ≡ c → ¬ IsResponse d → ((id : Option Id) (method : List ℕ) → ¬ IsCall d id method) → call_message c (get (codes "params") d) ≡ BadRequest
no_call d (request id method) same unlike uncalled = absurd (uncalled (Some id) method (IsCall-call_of d (Some id) method same))
no_call d (notification method) same unlike uncalled = absurd (uncalled None method (IsCall-call_of d None method same))
no_call d call.response same unlike uncalled = absurd (unlike (IsResponse-call_of d same))
no_call d neither same unlike uncalled = refl

no_opens : (d : Data) (found : Option Message) → did_open (get (codes "params") d) ≡ found → ((u : List ℕ) (v : ℤ) (t : List ℕ) → ¬ Opens d u v t) → found ≡ None
no_opens d (Some m) same closed =
    let parts : (u : List ℕ) × (v : ℤ) × (t : List ℕ) × (m ≡ DidOpen u v t) × Opens d u v t = Opens-did_open d m same in
    absurd (closed parts.0 parts.1 parts.2 parts.4)
no_opens d None same closed = refl

no_edits : (d : Data) (found : Option Message) → did_change (get (codes "params") d) ≡ found → ((u : List ℕ) (v : ℤ) (c : List Change) → ¬ Edits d u v c) → found ≡ None
no_edits d (Some m) same closed =
    let parts : (u : List ℕ) × (v : ℤ) × (c : List Change) × (m ≡ DidChange u v c) × Edits d u v c = Edits-did_change d m same in
    absurd (closed parts.0 parts.1 parts.2 parts.4)
no_edits d None same closed = refl

pub message_of-IsMessage : (body : List ℕ) (m : Message) → IsMessage body m → message_of body ≡ m
message_of-IsMessage body BadJson (bad_json none_has) = unfold message_of in no_value body _ _ refl refl none_has
message_of-IsMessage body BadRequest (bad_request d has unlike uncalled) = message_of-value body d has ∙ no_call d _ refl unlike uncalled
message_of-IsMessage body Response (response d has is) = message_of-value body d has ∙ ap (λ c. call_message c (get (codes "params") d)) (call_of-IsResponse d is)
message_of-IsMessage body (Unknown id method) (unknown d has is not_known) = message_of-value body d has ∙ value_message-call d id method is ∙ unknown_message id method _ not_known
message_of-IsMessage body (Initialize id) (initialize d has is) = message_of-value body d has ∙ value_message-call d (Some id) (codes "initialize") is
message_of-IsMessage body (Shutdown id) (shutdown d has is) = message_of-value body d has ∙ value_message-call d (Some id) (codes "shutdown") is
message_of-IsMessage body (Definition id u p) (asks_definition d has is asks) =
    message_of-value body d has ∙ value_message-call d (Some id) (codes "textDocument/definition") is
    ∙ ap (λ found. unwrap_or found (BadParams (Some id) (codes "textDocument/definition"))) (asked_at_place-AsksAtPlace (Definition id) d u p asks)
message_of-IsMessage body (References id u p f) (asks_references d has is asks) =
    message_of-value body d has ∙ value_message-call d (Some id) (codes "textDocument/references") is
    ∙ ap (λ found. unwrap_or found (BadParams (Some id) (codes "textDocument/references"))) (references_asked-AsksReferences d id u p f asks)
message_of-IsMessage body (Rename id u p n) (asks_rename d has is asks) =
    message_of-value body d has ∙ value_message-call d (Some id) (codes "textDocument/rename") is
    ∙ ap (λ found. unwrap_or found (BadParams (Some id) (codes "textDocument/rename"))) (rename_asked-AsksRename d id u p n asks)
message_of-IsMessage body (Completion id u p) (asks_completion d has is asks) =
    message_of-value body d has ∙ value_message-call d (Some id) (codes "textDocument/completion") is
    ∙ ap (λ found. unwrap_or found (BadParams (Some id) (codes "textDocument/completion"))) (asked_at_place-AsksAtPlace (Completion id) d u p asks)
message_of-IsMessage body Exit (exit d has is) = message_of-value body d has ∙ value_message-call d None (codes "exit") is
message_of-IsMessage body (DidOpen u v t) (opened d has is opens) =
    message_of-value body d has ∙ value_message-call d None (codes "textDocument/didOpen") is
    ∙ ap (λ found. unwrap_or found (BadParams None (codes "textDocument/didOpen"))) (did_open-Opens d u v t opens)
message_of-IsMessage body (BadParams None _) (not_opened d has is closed) =
    message_of-value body d has ∙ value_message-call d None (codes "textDocument/didOpen") is
    ∙ ap (λ found. unwrap_or found (BadParams None (codes "textDocument/didOpen"))) (no_opens d _ refl closed)
message_of-IsMessage body (DidChange u v c) (edited d has is edits) =
    message_of-value body d has ∙ value_message-call d None (codes "textDocument/didChange") is
    ∙ ap (λ found. unwrap_or found (BadParams None (codes "textDocument/didChange"))) (did_change-Edits d u v c edits)
message_of-IsMessage body (BadParams None _) (not_edited d has is closed) =
    message_of-value body d has ∙ value_message-call d None (codes "textDocument/didChange") is
    ∙ ap (λ found. unwrap_or found (BadParams None (codes "textDocument/didChange"))) (no_edits d _ refl closed)
message_of-IsMessage body (DidClose u) (document_closed d has is closes) =
    message_of-value body d has ∙ value_message-call d None (codes "textDocument/didClose") is
    ∙ ap (λ found. unwrap_or found (BadParams None (codes "textDocument/didClose"))) (did_close-ClosesDocument d u closes)
message_of-IsMessage body (BadParams None _) (not_document_closed d has is closed) =
    message_of-value body d has ∙ value_message-call d None (codes "textDocument/didClose") is
    ∙ ap (λ found. unwrap_or found (BadParams None (codes "textDocument/didClose"))) (no_close d _ refl closed)
message_of-IsMessage body (DidChangeWatchedFiles c) (files_changed d has is tells) =
    message_of-value body d has ∙ value_message-call d None (codes "workspace/didChangeWatchedFiles") is
    ∙ ap (λ found. unwrap_or found (BadParams None (codes "workspace/didChangeWatchedFiles"))) (did_change_watched_files-TellsOfFiles d c tells)
message_of-IsMessage body (BadParams None _) (not_files_changed d has is closed) =
    message_of-value body d has ∙ value_message-call d None (codes "workspace/didChangeWatchedFiles") is
    ∙ ap (λ found. unwrap_or found (BadParams None (codes "workspace/didChangeWatchedFiles"))) (no_file_changes d _ refl closed)
message_of-IsMessage body (BadParams (Some id) _) (not_definition d has is closed) =
    message_of-value body d has ∙ value_message-call d (Some id) (codes "textDocument/definition") is
    ∙ ap (λ found. unwrap_or found (BadParams (Some id) (codes "textDocument/definition"))) (no_place (Definition id) d _ refl closed)
message_of-IsMessage body (BadParams (Some id) _) (not_references d has is closed) =
    message_of-value body d has ∙ value_message-call d (Some id) (codes "textDocument/references") is
    ∙ ap (λ found. unwrap_or found (BadParams (Some id) (codes "textDocument/references"))) (no_references d id _ refl closed)
message_of-IsMessage body (BadParams (Some id) _) (not_rename d has is closed) =
    message_of-value body d has ∙ value_message-call d (Some id) (codes "textDocument/rename") is
    ∙ ap (λ found. unwrap_or found (BadParams (Some id) (codes "textDocument/rename"))) (no_rename d id _ refl closed)
message_of-IsMessage body (BadParams (Some id) _) (not_completion d has is closed) =
    message_of-value body d has ∙ value_message-call d (Some id) (codes "textDocument/completion") is
    ∙ ap (λ found. unwrap_or found (BadParams (Some id) (codes "textDocument/completion"))) (no_place (Completion id) d _ refl closed)
