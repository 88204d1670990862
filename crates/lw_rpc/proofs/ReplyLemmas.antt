-- No reply nests deeper than a reader goes.
use Rattle.std.proofs.Common.{◌≡◌, ◌≤◌, ℕ, ℤ, pos, negsuc, List, [], ◌∷◌, map, Option, Some, None, Ordering, Less, Equal, Greater, refl, arith}
use Rattle.std.specs.Cmp.Lexicographic.{slice_cmp}
use Rattle.std.specs.Ordering.{nat_cmp, match_ordering}
use Rattle.serde_json.specs.Data.{Data, Members, no_members, member, put, depth, items_depth, members_depth}
use Rattle.serde_json.specs.Read.{max_depth}
use Rattle.serde_json.specs.View.{items_of}
use Rattle.lw_text.specs.declared.shown.Shown.{Shown}
use Rattle.lw_rpc.specs.Values as spec
use Rattle.lw_rpc.specs.Values.{value_of}
use Rattle.lw_rpc.specs.declared.message.Id.{Id}
use Rattle.lw_rpc.specs.declared.message.Id.TheVariants.{Whole, Words}
use Rattle.lw_rpc.specs.declared.reply.CompletionItem.{CompletionItem}
use Rattle.lw_rpc.specs.declared.reply.FileEdits.{FileEdits}
use Rattle.lw_rpc.specs.declared.reply.Location.{Location}
use Rattle.lw_rpc.specs.declared.reply.TextEdit.{TextEdit}
use Rattle.lw_rpc.specs.declared.reply.Outcome.{Outcome}
use Rattle.lw_rpc.specs.declared.reply.Outcome.TheVariants.{Nothing, Hello, Spot, Spots, Edits, Offers}
use Rattle.lw_rpc.specs.declared.reply.Reply.{Reply}
use Rattle.lw_rpc.specs.declared.reply.Reply.TheVariants.{Done, Error, Publish, Log}

locations_are_shallow : (list : List Location) → items_depth (items_of (map spec.location_value list)) ≤ 3
locations_are_shallow [] = omega arith
locations_are_shallow (location ∷ others) = omega (arith, locations_are_shallow others)

edits_are_shallow : (list : List TextEdit) → items_depth (items_of (map spec.edit_value list)) ≤ 3
edits_are_shallow [] = omega arith
edits_are_shallow (edit ∷ others) = omega (arith, edits_are_shallow others)

offers_are_shallow : (list : List CompletionItem) → items_depth (items_of (map spec.offer_value list)) ≤ 4
offers_are_shallow [] = omega arith
offers_are_shallow (offer ∷ others) = omega (arith, offers_are_shallow others)

put_here_is_shallow : (n : ℕ) (r : Ordering) (a b c : Members) → members_depth a ≤ n → members_depth b ≤ n → members_depth c ≤ n → members_depth (match_ordering r a b c) ≤ n
put_here_is_shallow n Less a b c p q s = p
put_here_is_shallow n Equal a b c p q s = q
put_here_is_shallow n Greater a b c p q s = s

put_is_shallow : (n : ℕ) (key : List ℕ) (d : Data) (found : Members) → depth d ≤ n → members_depth found ≤ n → members_depth (put key d found) ≤ n
put_is_shallow n key d no_members one all = omega arith
put_is_shallow n key d (member other e others) one all =
    put_here_is_shallow n (slice_cmp nat_cmp key other) (member key d (member other e others)) (member other d others) (member other e (put key d others))
    (omega arith) (omega arith) (omega (arith, put_is_shallow n key d others one (omega arith)))

files_are_shallow : (files : List FileEdits) (found : Members) → members_depth found ≤ 4 → members_depth (spec.with_members found (map spec.file_member files)) ≤ 4
files_are_shallow [] found low = low
files_are_shallow (file ∷ others) found low =
    files_are_shallow others _ (put_is_shallow 4 file.uri (spec.file_member file).1 found (omega (arith, edits_are_shallow file.edits)) low)

outcome_is_shallow : (outcome : Outcome) → depth (spec.outcome_value outcome) ≤ 6
outcome_is_shallow Nothing = omega arith
outcome_is_shallow Hello = omega arith
outcome_is_shallow (Spot location) = omega arith
outcome_is_shallow (Spots list) = omega (arith, locations_are_shallow list)
outcome_is_shallow (Edits files) = omega (arith, files_are_shallow files no_members (omega arith))
outcome_is_shallow (Offers list) = omega (arith, offers_are_shallow list)

diagnostics_are_shallow : (list : List Shown) → items_depth (items_of (map spec.diagnostic_value list)) ≤ 3
diagnostics_are_shallow [] = omega arith
diagnostics_are_shallow (shown ∷ others) = omega (arith, diagnostics_are_shallow others)

params_are_shallow : (uri : List ℕ) (at : Option ℤ) (list : List Shown) → depth (spec.publish_params uri at list) ≤ 5
params_are_shallow uri None list = omega (arith, diagnostics_are_shallow list)
params_are_shallow uri (Some (pos n)) list = omega (arith, diagnostics_are_shallow list)
params_are_shallow uri (Some (negsuc n)) list = omega (arith, diagnostics_are_shallow list)

id_is_flat : (id : Id) → depth (spec.id_value id) ≡ 0
id_is_flat (Whole z) = refl
id_is_flat (Words text) = refl

id_or_null_is_flat : (id : Option Id) → depth (spec.id_or_null id) ≡ 0
id_or_null_is_flat (Some id) = id_is_flat id
id_or_null_is_flat None = refl

pub depth-value_of : (reply : Reply) → depth (value_of reply) ≤ max_depth
unfolding value_of
depth-value_of (Done id outcome) = omega (arith, id_is_flat id, outcome_is_shallow outcome)
depth-value_of (Error id code message) = omega (arith, id_or_null_is_flat id)
depth-value_of (Publish uri at list) = omega (arith, params_are_shallow uri at list)
depth-value_of (Log message) = omega arith
