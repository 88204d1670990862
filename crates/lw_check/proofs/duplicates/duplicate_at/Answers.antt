use Rattle.std.proofs.Common.{codes, ap, ◌∙◌}
use Rattle.lw_check.proofs.Saying.{from_five, saying}
use Rattle.lw_check.proofs.duplicates.duplicate_at.Goals as goal

pub returns : goal.returns
returns c =
    c.keyed.ensures
    ∙ ap (saying c.args.span 4)
    (c.from_string.ensures ∙ c.in_ok-message.ensures.ok ∙ from_five (codes "Duplicate ") c.args.type_name.now (codes " named '") c.args.name.now (codes "'."))
