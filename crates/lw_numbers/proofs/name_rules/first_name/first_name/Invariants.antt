use Rattle.std.proofs.Common.{ℕ, [], List, Option}
use Rattle.lw_grammar.specs.Leaves.{leaves}
use Rattle.lw_numbers.specs.Searching.{FindsName, ahead, work_left}
use Rattle.lw_numbers.proofs.name_rules.first_name.first_name.Given as goal

-- what is found from here on is what is found from the rule's leaves on
abbrev pub invariant-loop-leaf : goal.invariant-loop-leaf
invariant-loop-leaf l = (found : Option (List ℕ)) → FindsName l.g l.search.seen.keys (ahead l.search) found → FindsName l.g [] (leaves l.rule.body) found

abbrev pub decreases-loop-leaf : goal.decreases-loop-leaf
decreases-loop-leaf l = work_left l.g l.search
