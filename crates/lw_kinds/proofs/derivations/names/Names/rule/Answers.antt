use Rattle.lw_kinds.proofs.TokenCalls.{terminal_is_token, nothing_is_token}
use Rattle.lw_kinds.proofs.derivations.names.Names.rule.Goals as goal

pub returns-in-Terminal : goal.returns-in-Terminal
returns-in-Terminal c = terminal_is_token c.args.self.now.g.now c.args.name.now c.in-Terminal.field-0 c.in-Terminal.field-1.now c.in-Terminal.ensures

pub returns-in-Nothing : goal.returns-in-Nothing
returns-in-Nothing c = nothing_is_token c.args.self.now.g.now c.args.name.now c.in-Nothing.ensures
