use Rattle.std.proofs.Common.{◌≡◌, ◌++◌, map}
use Rattle.lw_complete.specs.Items.{item_of}
use Rattle.lw_complete.proofs.completion.put_items.Given as goal

-- those so far stand behind the others
abbrev pub invariant-loop-label : goal.invariant-loop-label
invariant-loop-label l = l.items.items ≡ l.initial.items.items ++ map (item_of l.kind l.from l.to) l.yielded
