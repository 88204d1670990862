use Rattle.std.proofs.Common.{option_map, ap, ◌∙◌}
use Rattle.serde_json.proofs.Views.{view-lookup}
use Rattle.serde_json.specs.Find.{get_member}
use Rattle.serde_json.specs.View.{view, members_view}
use Rattle.lw_rpc.proofs.MemberLemmas.{get_member-without}
use Rattle.lw_rpc.proofs.members.taken_value.Goals as goal

pub returns-clause-value : goal.returns-clause-value
returns-clause-value c = ap (option_map view) c.remove.ensures.value ∙ view-lookup c.args.key.now c.args.members.now.entries

pub returns-clause-others : goal.returns-clause-others
returns-clause-others c other differs =
    ap (λ entries. get_member other (members_view entries)) c.remove.ensures.entries ∙ get_member-without c.args.key.now other c.args.members.now.entries differs
