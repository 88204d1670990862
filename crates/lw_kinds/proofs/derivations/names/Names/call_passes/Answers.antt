use Rattle.lw_kinds.proofs.CallForms.{rule_passes, token_passes}
use Rattle.lw_kinds.proofs.derivations.names.Names.call_passes.Goals as goal

pub returns-in-Some : goal.returns-in-Some
returns-in-Some c = rule_passes c.args.self.now.g.now c.args.tokens c.args.flags.now c.in-Some.ensures c.is_set.ensures

pub returns-in-None : goal.returns-in-None
returns-in-None c = token_passes c.args.self.now.g.now c.args.tokens c.args.flags.now c.in-None.ensures
