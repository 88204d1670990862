use Rattle.std.specs.Map.{keys_of}
use Rattle.lw_index.specs.Others.{IsOthers}
use Rattle.lw_index.proofs.Gathered.{AreGathered}
use Rattle.lw_index.proofs.index.elsewhere.names_of_others.Given as goal

abbrev pub invariant-loop-name : goal.invariant-loop-name
invariant-loop-name l = AreGathered (IsOthers l.names l.except l.types) l.found.items (keys_of l.name-iterator)
