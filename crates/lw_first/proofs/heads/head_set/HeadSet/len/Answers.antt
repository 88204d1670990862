use Rattle.std.proofs.Common.{◌≤◌, length, subst}
use Rattle.lw_first.specs.Sets.{most_heads}
use Rattle.lw_first.proofs.Distinct.{few_heads}
use Rattle.lw_first.proofs.heads.head_set.HeadSet.len.Goals as goal

pub returns-clause-few : goal.returns-clause-few
returns-clause-few c = subst (λ heads. length heads ≤ most_heads) c.self.view_is (few_heads c.self.inside.heads.keys c.len.ensures.unique c.self.invariant.1)
