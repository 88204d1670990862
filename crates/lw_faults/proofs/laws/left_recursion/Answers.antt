-- The fragment reads nothing, or it reads a token.
use Rattle.lw_faults.proofs.RecursionWorked.{found, not_found}
use Rattle.lw_faults.proofs.laws.left_recursion.Goals as goal

pub returns : goal.returns
returns c = record { behind_nothing = found; behind_a_token = not_found }
