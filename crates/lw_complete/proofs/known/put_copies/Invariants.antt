use Rattle.std.proofs.Common.{◌≡◌, ◌++◌, take}
use Rattle.lw_complete.proofs.known.put_copies.Given as goal

-- those so far stand behind the others
abbrev pub invariant-loop-name : goal.invariant-loop-name
invariant-loop-name l = l.names.items ≡ l.initial.names.items ++ take l.name-index l.others
