use Rattle.std.proofs.Common.{ap, ◌∙◌}
use Rattle.std.specs.FinSet as set
use Rattle.lw_base.proofs.Members.{contains-keys}
use Rattle.lw_base.proofs.type_set.TypeSet.holds.Goals as goal

pub returns : goal.returns
returns c = c.contains.ensures ∙ contains-keys _ _ ∙ ap (λ s. set.contains s c.args.t.0) c.self.view_is
