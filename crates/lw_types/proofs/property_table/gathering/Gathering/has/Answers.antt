use Rattle.std.proofs.Common.{ap, ◌∙◌}
use Rattle.lw_types.specs.Gathered.{has_prop}
use Rattle.lw_types.proofs.Meeting.{has_met}
use Rattle.lw_types.proofs.property_table.gathering.Gathering.has.Goals as goal

pub returns : goal.returns
returns c = c.contains_key.ensures ∙ has_met c.self.inside.props.entries c.args.prop.0 ∙ ap (λ infos. has_prop infos c.args.prop.0) c.self.view_is
