use Rattle.std.proofs.lemmas.Bool.{leb-true, le-leb}
use Rattle.lw_terminals.proofs.EndLemmas.{order_of_ends, ends_in_order}
use Rattle.lw_terminals.proofs.patterns.ends.has_ends.Goals as goal

pub returns-in-Some-Some : goal.returns-in-Some-Some
returns-in-Some-Some c =
    let first = c.in-Some-Some.first in
    let last = c.in-Some-Some.last in (
      λ is. ends_in_order c.args.from.now c.args.to.now first last c.in-Some-Some.ensures c.in-Some-Some.ensures' (leb-true first last is),
      λ is. le-leb first last (order_of_ends c.args.from.now c.args.to.now first last c.in-Some-Some.ensures c.in-Some-Some.ensures' is),
    )
