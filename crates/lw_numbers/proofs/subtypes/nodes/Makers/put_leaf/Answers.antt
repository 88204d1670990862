use Rattle.std.proofs.Common.{refl, ap}
use Rattle.lw_numbers.specs.Parts.{leaf_of}
use Rattle.lw_numbers.proofs.Making.{call_puts}
use Rattle.lw_numbers.proofs.subtypes.nodes.Makers.put_leaf.Goals as goal

pub returns-in_ok-add-in-Call : goal.returns-in_ok-add-in-Call
returns-in_ok-add-in-Call c =
    let e = c.in_ok-add-in-Call.ensures in
    call_puts c.args.g.now c.args.rule c.in-Some.called c.in-Some.field-0-1.now c.in-Call.name.now c.in-Call.field-1 (leaf_of c.args.leaf.now) c.args.self.now
    (record { callers = c.add.new.self; starts = c.args.self.now.starts }) (ap leaf_of c.in-Call.is) c.in-Some.ensures refl e.nodes e.edges
