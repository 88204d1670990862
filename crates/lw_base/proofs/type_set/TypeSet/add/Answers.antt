use Rattle.std.proofs.Common.{ap, ◌∙◌}
use Rattle.std.specs.FinSet as set
use Rattle.lw_base.proofs.Members.{from_list-keys_insert}
use Rattle.lw_base.proofs.type_set.TypeSet.add.Goals as goal

pub returns-clause-ok : goal.returns-clause-ok
returns-clause-ok c = from_list-keys_insert _ _ _ c.in_ok-insert.ensures.updates ∙ ap (λ s. set.insert s c.args.t.0) c.self.view_is
