use Rattle.lw_kinds.specs.Crossing.{IsReadBy}
use Rattle.lw_kinds.proofs.NamedRules.{IsThisName, added_by, crossing_one}
use Rattle.lw_kinds.proofs.derivations.names.Names.add_cross.Goals as goal

pub returns-in-Some : goal.returns-in-Some
returns-in-Some c =
    let g = c.args.self.now.g.now in
    let name = c.in-Some.name.now in
    added_by g c.add_call.result c.args.from (IsThisName g name) (IsReadBy g c.args.wanted.now c.args.rule.now)
    (crossing_one g c.args.wanted.now c.args.rule.now name c.in-Some.ensures) c.args.graph.now c.add_call.new.graph c.add_call.ensures
