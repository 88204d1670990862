use Rattle.std.proofs.Common.{◌≡◌, ◌++◌, map, take}
use Rattle.lw_index.proofs.Gathering.{slot_of}
use Rattle.lw_index.proofs.refs.leads.Leads.add_users.Given as goal

abbrev pub invariant-loop-found : goal.invariant-loop-found
invariant-loop-found l = l.slots.items ≡ l.initial.slots.items ++ map (slot_of l.user) (take l.found-index l.found-items)
