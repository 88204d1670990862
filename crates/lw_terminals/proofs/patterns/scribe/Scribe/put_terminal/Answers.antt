use Rattle.std.proofs.Common.{sym}
use Rattle.std.proofs.lemmas.Result.{on_ok_weaker}
use Rattle.lw_terminals.specs.Writing.{IsFoundAt}
use Rattle.lw_terminals.proofs.ReadyForms.{ready_choice_at}
use Rattle.lw_terminals.proofs.WrittenForms.{bare_terminal, choice_terminal, other_terminal}
use Rattle.lw_terminals.proofs.patterns.scribe.Scribe.put_terminal.Goals as goal

pub returns-in-Some : goal.returns-in-Some
returns-in-Some c = on_ok_weaker c.put_unescaped.result (bare_terminal c.args.self.now.g.now c.args.terminal.now c.in-Some.text.now (sym c.in-Some.ensures)) c.put_unescaped.ensures

pub put_choice-requires-clause-some : goal.put_choice-requires-clause-some
put_choice-requires-clause-some c =
    (ready_choice_at c.args.self.now.g.now (IsFoundAt c.args.self.now.written.now) c.args.terminal.now.body c.in-Some-choice.parts.now c.in-Some-choice.ensures c.requires.ready).0

pub put_choice-requires-clause-ready : goal.put_choice-requires-clause-ready
put_choice-requires-clause-ready c =
    (ready_choice_at c.args.self.now.g.now (IsFoundAt c.args.self.now.written.now) c.args.terminal.now.body c.in-Some-choice.parts.now c.in-Some-choice.ensures c.requires.ready).1

pub returns-in-Some-choice : goal.returns-in-Some-choice
returns-in-Some-choice c =
    on_ok_weaker c.put_choice.result (choice_terminal c.args.self.now.g.now c.args.terminal.now c.in-Some-choice.parts.now (sym c.in-Some-choice.ensures)) c.put_choice.ensures

pub returns-in-None : goal.returns-in-None
returns-in-None c =
    on_ok_weaker c.put_alternative.result (other_terminal c.args.self.now.g.now c.args.terminal.now (sym c.in_default.ensures) (sym c.in-None.ensures)) c.put_alternative.ensures
