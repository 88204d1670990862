use Rattle.std.proofs.Common.{◌≡◌, ◌∙◌, refl, sym, codes, None, option_map}
use Rattle.serde_json.specs.Find.{get_member}
use Rattle.serde_json.specs.View.{view, members_view}
use Rattle.lw_rpc.proofs.CauseLemmas.{other_text, without_method-params}
use Rattle.lw_rpc.proofs.reading.object_message.Goals as goal

pub returns : goal.returns
returns c =
    let version : option_map view c.taken_value-version.result ≡ get_member (codes "jsonrpc") (members_view c.args.members.entries) = c.taken_value-version.ensures.value in
    let id : option_map view c.taken_value-id.result ≡ get_member (codes "id") (members_view c.args.members.entries) =
    c.taken_value-id.ensures.value ∙ c.taken_value-version.ensures.others (codes "id") (other_text _ _ refl) in
    let no_method : None ≡ get_member (codes "method") (members_view c.args.members.entries) =
    c.in-None.ensures.value ∙ c.taken_value-params.ensures.others (codes "method") (other_text _ _ refl)
    ∙ c.taken_value-id.ensures.others (codes "method") (other_text _ _ refl) ∙ c.taken_value-version.ensures.others (codes "method") (other_text _ _ refl) in
    rw (← version, ← id, ← no_method) (c.without_method.ensures ∙ sym (without_method-params _ _ (get_member (codes "params") (members_view c.args.members.entries))))
