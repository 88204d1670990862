use Rattle.std.proofs.Common.{sym, subst, true≢false, ◌∙◌}
use Rattle.lw_flow.specs.declared.callee.Callee.TheVariants.{Step}
use Rattle.lw_flow.specs.declared.effect.Effect.TheVariants.{Calls}
use Rattle.lw_flow.specs.Callees.{IsCallee}
use Rattle.lw_flow.specs.Callees as call
use Rattle.lw_flow.proofs.MeantLemmas.{calls_node, reads_text}
use Rattle.lw_flow.proofs.callee.Source.rule_callee.Goals as goal

pub returns-then-rule : goal.returns-then-rule
returns-then-rule c name is = call.fragment c.args.number c.args.rule.now is c.if-rule.true

pub returns-then-makes_nodes : goal.returns-then-makes_nodes
returns-then-makes_nodes c name is =
    let g = c.args.self.now.grammar.now in
    subst (λ o. IsCallee g name (Step (Calls o))) (sym c.own_number.ensures)
    (calls_node g name is c.if-rule.false ((c.makes_nodes.ensures c.args.rule.now is.first.there).0 c.if-makes_nodes.true))

pub returns : goal.returns
returns c name is =
    reads_text c.args.self.now.grammar.now name is c.if-rule.false
    (λ makes. true≢false (sym ((c.makes_nodes.ensures c.args.rule.now is.first.there).1 makes) ∙ c.if-makes_nodes.false))
