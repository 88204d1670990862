use Rattle.lw_numbers.proofs.Gathering.{grammar_puts}
use Rattle.lw_numbers.proofs.first_uses.FirstUses.of.Goals as goal

pub returns-clause-types : goal.returns-clause-types
returns-clause-types c =
    (grammar_puts c.args.g.now (record { types = c.new.result; properties = c.new-2.result }) c.put_interfaces.new.self c.put_unions.new.self c.put_rules.new.self
    c.new.ensures.empty c.new-2.ensures.empty c.as_slice.ensures c.as_slice-2.ensures c.as_slice-3.ensures c.in_ok-put_interfaces.ensures
    c.in_ok-put_unions.ensures c.in_ok-put_rules.ensures).0

pub returns-clause-properties : goal.returns-clause-properties
returns-clause-properties c =
    (grammar_puts c.args.g.now (record { types = c.new.result; properties = c.new-2.result }) c.put_interfaces.new.self c.put_unions.new.self c.put_rules.new.self
    c.new.ensures.empty c.new-2.ensures.empty c.as_slice.ensures c.as_slice-2.ensures c.as_slice-3.ensures c.in_ok-put_interfaces.ensures
    c.in_ok-put_unions.ensures c.in_ok-put_rules.ensures).1
