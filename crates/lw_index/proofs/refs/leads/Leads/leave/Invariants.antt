use Rattle.lw_index.proofs.Pairing.{SomeStay}
use Rattle.lw_index.proofs.refs.leads.Leads.leave.Given as goal

abbrev pub invariant-loop-found : goal.invariant-loop-found
invariant-loop-found l = SomeStay l.user.0 l.kept l.initial.pairs l.pairs
