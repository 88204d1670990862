use Rattle.std.proofs.Common.{subst}
use Rattle.std.proofs.lemmas.Result.{on_ok_weaker}
use Rattle.lw_grammar.specs.declared.rule.Rule.{Rule}
use Rattle.lw_grammar.specs.Named.{IsRule}
use Rattle.lw_kinds.proofs.OneName.{one_reads}
use Rattle.lw_first.proofs.CallingForms.{calls_as}
use Rattle.lw_first.proofs.callers.Caller.cross.Goals as goal

pub returns-in-Some : goal.returns-in-Some
returns-in-Some c =
    let g = c.args.self.now.lexicon.g.now in
    on_ok_weaker c.call.result
    (calls_as c.args.self.now.number c.args.graph.now c.call.new.graph
    (λ r (name, reads, calls). subst (λ name. (rule : Rule) × IsRule g name r rule) (one_reads g c.args.wanted.now c.args.written.now name c.in-Some.name.now reads c.in-Some.ensures) calls))
    c.call.ensures
