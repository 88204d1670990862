use Rattle.std.proofs.lemmas.Result.{on_ok_weaker}
use Rattle.lw_faults.proofs.Joining.{Finds-then}
use Rattle.lw_types.proofs.naming.names.KnownNames.find_second_declarations.Goals as goal

pub returns : goal.returns
returns c =
    on_ok_weaker c.find_second_unions.result
    (λ unions. Finds-then (Finds-then (Finds-then c.in_ok-find_second_rules.ensures c.in_ok-find_second_terminals.ensures) c.in_ok-find_second_interfaces.ensures) unions)
    c.find_second_unions.ensures
