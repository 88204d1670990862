use Rattle.lw_index.proofs.Pairing.{AreEnteredUpTo}
use Rattle.lw_index.proofs.refs.leads.Leads.enter.Given as goal

abbrev pub invariant-loop-found : goal.invariant-loop-found
invariant-loop-found l = AreEnteredUpTo l.initial.pairs l.pairs l.user.0 l.found-items l.found-index l.last
