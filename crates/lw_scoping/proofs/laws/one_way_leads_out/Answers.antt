use Rattle.lw_scoping.proofs.Paths.{leads_once, leads_out}
use Rattle.lw_scoping.proofs.laws.one_way_leads_out.Goals as goal

pub returns : goal.returns
returns c = record { once = λ tree n path other is was. leads_once tree is was; there = leads_out }
