-- The compact text of a reply's value is the reply's text.
use Rattle.std.proofs.Common.{◌≡◌, ℕ, ℤ, pos, negsuc, List, [], ◌∷◌, ◌++◌, map, true, false, codes, Option, Some, None, refl, ap, ◌∙◌, append_assoc}
use Rattle.std.specs.Fmt.{digits, signed_decimal}
use Rattle.std.specs.List.{join_with_byte}
use Rattle.json.specs.Print.{quoted}
use Rattle.serde_json.proofs.OnLiterals.{serde_json_on_literals}
use Rattle.serde_json.specs.Data.{Data, Items, Members, array, string, object, member, no_members}
use Rattle.serde_json.specs.View.{items_of}
use Rattle.serde_json.specs.Written.{compact_text, items_text, members_text}
use Rattle.lw_text.specs.declared.place.Pos.{Pos}
use Rattle.lw_text.specs.declared.shown.Shown.{Shown}
use Rattle.lw_rpc.proofs.ListTexts.{items_text-map, members_text-map}
use Rattle.lw_rpc.proofs.OrderLemmas.{with_members-in_order}
use Rattle.lw_rpc.specs.Replies.{id_text, id_or_null_text, position_text, range_text, location_text, locations_text, replacement_text, edit_text, file_text, edits_text, offer_text, offers_text, outcome_text, AreOrdered, HasOrderedFiles, HasOrderedEdits, diagnostic_text, diagnostics_text, done_text, error_text, publish_text, version_text, log_text, reply_bytes}
use Rattle.lw_rpc.specs.Values as value
use Rattle.lw_rpc.specs.Values.{value_of}
use Rattle.lw_rpc.specs.declared.message.Id.{Id}
use Rattle.lw_rpc.specs.declared.message.Id.TheVariants.{Whole, Words}
use Rattle.lw_rpc.specs.declared.reply.CompletionItem.{CompletionItem}
use Rattle.lw_rpc.specs.declared.reply.FileEdits.{FileEdits}
use Rattle.lw_rpc.specs.declared.reply.Location.{Location}
use Rattle.lw_rpc.specs.declared.reply.TextEdit.{TextEdit}
use Rattle.lw_rpc.specs.declared.reply.Outcome.{Outcome}
use Rattle.lw_rpc.specs.declared.reply.Outcome.TheVariants.{Nothing, Hello, Spot, Spots, Edits, Offers}
use Rattle.lw_rpc.specs.declared.reply.Reply.{Reply}
use Rattle.lw_rpc.specs.declared.reply.Reply.TheVariants.{Done, Error, Publish, Log}

compact_text-id_value : (id : Id) → compact_text (value.id_value id) ≡ id_text id
unfolding serde_json_on_literals
compact_text-id_value (Whole (pos n)) = refl
compact_text-id_value (Whole (negsuc n)) = refl
compact_text-id_value (Words text) = refl

compact_text-id_or_null : (id : Option Id) → compact_text (value.id_or_null id) ≡ id_or_null_text id
unfolding serde_json_on_literals
compact_text-id_or_null (Some id) = compact_text-id_value id
compact_text-id_or_null None = refl

compact_text-position_value : (place : Pos) → compact_text (value.position_value place) ≡ position_text place
unfolding serde_json_on_literals
compact_text-position_value place = simp append_assoc

range_from : (end start : Data) (s t : List ℕ) → compact_text end ≡ s → compact_text start ≡ t → compact_text (value.object_of ((codes "end", end) ∷ (codes "start", start) ∷ [])) ≡ codes "{\"end\":" ++ s ++ codes ",\"start\":" ++ t ++ codes "}"
unfolding serde_json_on_literals
range_from end start s t p q = simp (p, q, append_assoc)

compact_text-range_value : (start end : Pos) → compact_text (value.range_value start end) ≡ range_text start end
compact_text-range_value start end = range_from (value.position_value end) (value.position_value start) _ _ (compact_text-position_value end) (compact_text-position_value start)

location_from : (range uri : Data) (s t : List ℕ) → compact_text range ≡ s → compact_text uri ≡ t → compact_text (value.object_of ((codes "range", range) ∷ (codes "uri", uri) ∷ [])) ≡ codes "{\"range\":" ++ s ++ codes ",\"uri\":" ++ t ++ codes "}"
unfolding serde_json_on_literals
location_from range uri s t p q = simp (p, q, append_assoc)

compact_text-location_value : (location : Location) → compact_text (value.location_value location) ≡ location_text location
compact_text-location_value location =
    location_from (value.range_value location.start location.end) (string location.uri) _ _ (compact_text-range_value location.start location.end) refl

compact_text-locations : (list : List Location) → compact_text (array (items_of (map value.location_value list))) ≡ locations_text list
compact_text-locations list = ap (λ t. 91 ∷ t) (items_text-map value.location_value location_text compact_text-location_value list)

replacement_from : (text range : Data) (s t : List ℕ) → compact_text text ≡ s → compact_text range ≡ t → compact_text (value.object_of ((codes "newText", text) ∷ (codes "range", range) ∷ [])) ≡ codes "{\"newText\":" ++ s ++ codes ",\"range\":" ++ t ++ codes "}"
unfolding serde_json_on_literals
replacement_from text range s t p q = simp (p, q, append_assoc)

compact_text-replacement_value : (text : List ℕ) (start end : Pos) → compact_text (value.replacement_value text start end) ≡ replacement_text text start end
compact_text-replacement_value text start end = replacement_from (string text) (value.range_value start end) _ _ refl (compact_text-range_value start end)

compact_text-edit_value : (edit : TextEdit) → compact_text (value.edit_value edit) ≡ edit_text edit
compact_text-edit_value edit = compact_text-replacement_value edit.text edit.start edit.end

file_from : (uri : List ℕ) (edits : Items) (s : List ℕ) → items_text false edits ≡ s ++ 93 ∷ [] → quoted uri ++ 58 ∷ compact_text (array edits) ≡ quoted uri ++ codes ":[" ++ s ++ codes "]"
file_from uri edits s p = simp (p, append_assoc)

text_of_file : (file : FileEdits) → quoted (value.file_member file).0 ++ 58 ∷ compact_text (value.file_member file).1 ≡ file_text file
text_of_file file = file_from file.uri (items_of (map value.edit_value file.edits)) _ (items_text-map value.edit_value edit_text compact_text-edit_value file.edits)

changes_from : (changes : Data) (s : List ℕ) → compact_text changes ≡ s → compact_text (value.object_of ((codes "changes", changes) ∷ [])) ≡ codes "{\"changes\":" ++ s ++ codes "}"
unfolding serde_json_on_literals
changes_from changes s p = simp (p, append_assoc)

compact_text-edits_value : (files : List FileEdits) → AreOrdered files → compact_text (value.edits_value files) ≡ edits_text files
compact_text-edits_value files ordered =
    let changes : compact_text (value.object_of (map value.file_member files)) ≡ 123 ∷ (join_with_byte 44 (map file_text files) ++ 125 ∷ []) =
    ap (λ found. 123 ∷ members_text false found) (with_members-in_order files ordered) ∙ ap (λ t. 123 ∷ t) (members_text-map value.file_member file_text text_of_file files) in
    changes_from (value.object_of (map value.file_member files)) _ changes
    ∙ ap (λ t. codes "{\"changes\":{" ++ t) (append_assoc (join_with_byte 44 (map file_text files)) (125 ∷ []) (125 ∷ []))

offer_from : (kind label edit : Data) (s t u : List ℕ) → compact_text kind ≡ s → compact_text label ≡ t → compact_text edit ≡ u → compact_text (value.object_of ((codes "kind", kind) ∷ (codes "label", label) ∷ (codes "textEdit", edit) ∷ [])) ≡ codes "{\"kind\":" ++ s ++ codes ",\"label\":" ++ t ++ codes ",\"textEdit\":" ++ u ++ codes "}"
unfolding serde_json_on_literals
offer_from kind label edit s t u p q r = simp (p, q, r, append_assoc)

compact_text-offer_value : (offer : CompletionItem) → compact_text (value.offer_value offer) ≡ offer_text offer
compact_text-offer_value offer =
    offer_from (value.natural offer.kind) (string offer.label) (value.replacement_value offer.label offer.start offer.end) _ _ _
    refl refl (compact_text-replacement_value offer.label offer.start offer.end)

compact_text-offers : (list : List CompletionItem) → compact_text (array (items_of (map value.offer_value list))) ≡ offers_text list
compact_text-offers list = ap (λ t. 91 ∷ t) (items_text-map value.offer_value offer_text compact_text-offer_value list)

compact_text-outcome_value : (outcome : Outcome) → HasOrderedFiles outcome → compact_text (value.outcome_value outcome) ≡ outcome_text outcome
unfolding serde_json_on_literals digits
compact_text-outcome_value Nothing _ = refl
compact_text-outcome_value Hello _ = refl
compact_text-outcome_value (Spot location) _ = compact_text-location_value location
compact_text-outcome_value (Spots list) _ = compact_text-locations list
compact_text-outcome_value (Edits files) ordered = compact_text-edits_value files ordered
compact_text-outcome_value (Offers list) _ = compact_text-offers list

done_from : (id outcome : Data) (s t : List ℕ) → compact_text id ≡ s → compact_text outcome ≡ t → compact_text (value.object_of ((codes "id", id) ∷ (codes "jsonrpc", value.version) ∷ (codes "result", outcome) ∷ [])) ≡ codes "{\"id\":" ++ s ++ codes ",\"jsonrpc\":\"2.0\",\"result\":" ++ t ++ codes "}"
unfolding serde_json_on_literals
done_from id outcome s t p q = simp (p, q, append_assoc)

compact_text-done_value : (id : Id) (outcome : Outcome) → HasOrderedFiles outcome → compact_text (value.done_value id outcome) ≡ done_text id outcome
compact_text-done_value id outcome ordered = done_from (value.id_value id) (value.outcome_value outcome) _ _ (compact_text-id_value id) (compact_text-outcome_value outcome ordered)

error_from : (code message id : Data) (s t u : List ℕ) → compact_text code ≡ s → compact_text message ≡ t → compact_text id ≡ u → compact_text (value.object_of ((codes "error", value.object_of ((codes "code", code) ∷ (codes "message", message) ∷ [])) ∷ (codes "id", id) ∷ (codes "jsonrpc", value.version) ∷ [])) ≡ codes "{\"error\":{\"code\":" ++ s ++ codes ",\"message\":" ++ t ++ codes "},\"id\":" ++ u ++ codes ",\"jsonrpc\":\"2.0\"}"
unfolding serde_json_on_literals
error_from code message id s t u p q r = simp (p, q, r, append_assoc)

compact_text-whole : (z : ℤ) → compact_text (value.whole z) ≡ signed_decimal z
compact_text-whole (pos n) = refl
compact_text-whole (negsuc n) = refl

compact_text-error_value : (id : Option Id) (code : ℤ) (message : List ℕ) → compact_text (value.error_value id code message) ≡ error_text id code message
compact_text-error_value id code message = error_from (value.whole code) (string message) (value.id_or_null id) _ _ _ (compact_text-whole code) refl (compact_text-id_or_null id)

compact_text-log : (message : List ℕ) → compact_text (value_of (Log message)) ≡ log_text message
unfolding serde_json_on_literals value_of digits
compact_text-log message = simp append_assoc

diagnostic_from : (code message range severity : Data) (s t u v : List ℕ) → compact_text code ≡ s → compact_text message ≡ t → compact_text range ≡ u → compact_text severity ≡ v → compact_text (value.object_of ((codes "code", code) ∷ (codes "message", message) ∷ (codes "range", range) ∷ (codes "severity", severity) ∷ [])) ≡ codes "{\"code\":" ++ s ++ codes ",\"message\":" ++ t ++ codes ",\"range\":" ++ u ++ codes ",\"severity\":" ++ v ++ codes "}"
unfolding serde_json_on_literals
diagnostic_from code message range severity s t u v p q r e = simp (p, q, r, e, append_assoc)

compact_text-diagnostic_value : (shown : Shown) → compact_text (value.diagnostic_value shown) ≡ diagnostic_text shown
compact_text-diagnostic_value shown = diagnostic_from (value.natural shown.code) (string shown.message) (value.range_value shown.start shown.end) (value.natural (value.severity shown.code)) _ _ _ _ refl refl (compact_text-range_value shown.start shown.end) refl

items_text-diagnostics : (list : List Shown) → items_text false (items_of (map value.diagnostic_value list)) ≡ diagnostics_text list ++ 93 ∷ []
items_text-diagnostics list = items_text-map value.diagnostic_value diagnostic_text compact_text-diagnostic_value list

publish_from : (list : Items) (uri : Data) (others : Members) (s t u : List ℕ) → items_text false list ≡ s ++ 93 ∷ [] → compact_text uri ≡ t → members_text true others ≡ u ++ 125 ∷ [] → compact_text (value.notification_value (codes "textDocument/publishDiagnostics") (object (member (codes "diagnostics") (array list) (member (codes "uri") uri others)))) ≡ codes "{\"jsonrpc\":\"2.0\",\"method\":\"textDocument/publishDiagnostics\",\"params\":{\"diagnostics\":[" ++ s ++ codes "],\"uri\":" ++ t ++ u ++ codes "}}"
unfolding serde_json_on_literals
publish_from list uri others s t u p q r = simp (p, q, r, append_assoc)

version_text-pushed : (z : ℤ) → members_text true (member (codes "version") (value.whole z) no_members) ≡ version_text (Some z) ++ 125 ∷ []
unfolding serde_json_on_literals
version_text-pushed (pos n) = refl
version_text-pushed (negsuc n) = refl

compact_text-publish : (uri : List ℕ) (at : Option ℤ) (list : List Shown) → compact_text (value_of (Publish uri at list)) ≡ publish_text uri at list
unfolding value_of
compact_text-publish uri None list =
    publish_from (items_of (map value.diagnostic_value list)) (string uri) no_members _ _ [] (items_text-diagnostics list) refl refl
compact_text-publish uri (Some z) list =
    publish_from (items_of (map value.diagnostic_value list)) (string uri) (member (codes "version") (value.whole z) no_members) _ _ (version_text (Some z)) (items_text-diagnostics list) refl (version_text-pushed z)

pub compact_text-value_of : (reply : Reply) → HasOrderedEdits reply → compact_text (value_of reply) ≡ reply_bytes reply
unfolding value_of reply_bytes
compact_text-value_of (Done id outcome) ordered = compact_text-done_value id outcome ordered
compact_text-value_of (Error id code message) _ = compact_text-error_value id code message
compact_text-value_of (Publish uri at list) _ = compact_text-publish uri at list
compact_text-value_of (Log message) _ = compact_text-log message
