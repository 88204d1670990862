use Rattle.std.proofs.Common.{codes, ap, ◌∙◌}
use Rattle.lw_check.proofs.Saying.{from_five, saying}
use Rattle.lw_check.proofs.unresolved.unresolved_at.Goals as goal

pub returns : goal.returns
returns c =
    c.keyed.ensures
    ∙ ap (saying c.args.span 3)
    (c.from_string.ensures ∙ c.in_ok-message.ensures.ok ∙ from_five (codes "Could not resolve reference to ") c.args.wanted.now (codes " named '") c.args.name.now (codes "'."))
