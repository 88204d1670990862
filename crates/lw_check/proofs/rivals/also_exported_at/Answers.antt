use Rattle.std.proofs.Common.{codes, ap, ◌∙◌}
use Rattle.lw_check.proofs.Saying.{from_six, saying}
use Rattle.lw_check.proofs.rivals.also_exported_at.Goals as goal

pub returns : goal.returns
returns c =
    let says = from_six c.args.type_name.now (codes " '") c.args.name.now (codes "' is also exported by ") c.args.uri.now (codes ".") in
    c.keyed.ensures ∙ ap (saying c.args.span 5) (c.from_string.ensures ∙ c.in_ok-message.ensures.ok ∙ says)
