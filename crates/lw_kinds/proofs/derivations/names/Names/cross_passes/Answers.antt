use Rattle.lw_kinds.proofs.CallForms.{cross_passes, nameless_passes}
use Rattle.lw_kinds.proofs.derivations.names.Names.cross_passes.Goals as goal

pub returns-in-Some : goal.returns-in-Some
returns-in-Some c = cross_passes c.args.self.now.g.now c.args.tokens c.args.flags.now c.in-Some.ensures c.call_passes.ensures

pub returns-in-None : goal.returns-in-None
returns-in-None c = nameless_passes c.args.self.now.g.now c.args.tokens c.args.flags.now c.in-None.ensures
