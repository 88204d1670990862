use Rattle.lw_faults.proofs.Joining.{Finds-then}
use Rattle.lw_gramcheck.proofs.PlainLemmas.{found_plain}
use Rattle.lw_gramcheck.proofs.parts.plain_faults.find_plain_faults.Goals as goal

pub returns : goal.returns
returns c =
    found_plain c.args.checker.now.g.now
    (Finds-then (Finds-then c.in_ok-find_no_entry.ensures c.in_ok-find_second_entries.ensures) c.in_ok-find_entry_without_node.ensures)
    c.in_ok-find_mixed_data_types.ensures
    (Finds-then c.in_ok-find_bad_calls.ensures c.in_ok-find_bad_assignments.ensures)
    c.in_ok-find_too_many_rules.ensures
