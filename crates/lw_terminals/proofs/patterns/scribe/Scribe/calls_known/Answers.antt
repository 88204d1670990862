use Rattle.std.proofs.Common.{true≢false, sym}
use Rattle.lw_terminals.specs.Writing.{IsFoundAt}
use Rattle.lw_terminals.proofs.MeaningLemmas.{calls_by, calls_none}
use Rattle.lw_terminals.proofs.patterns.scribe.Scribe.calls_known.Goals as goal

pub returns-in-Some : goal.returns-in-Some
returns-in-Some c = calls_by c.args.self.now.g.now c.args.name.now (IsFoundAt c.args.self.now.written.now) c.in-Some.place c.in-Some.ensures c.is_found.ensures

pub returns-in-None : goal.returns-in-None
returns-in-None c = (λ is. absurd (true≢false (sym is)), λ calls. absurd (calls_none c.args.self.now.g.now c.args.name.now (IsFoundAt c.args.self.now.written.now) c.in-None.ensures calls))
