use Rattle.std.proofs.Common.{◌≡◌, ◌≤◌, Some, slice_get, length, refl, ap, ◌∙◌, subst}
use Rattle.std.proofs.lemmas.Option.{slice_get_read}
use Rattle.lw_grammar.specs.declared.rule.Rule.{Rule}
use Rattle.lw_faults.specs.Reads.{Leads}
use Rattle.lw_kinds.proofs.RuleEdges.{no_edges_below, edges_more, all_edges}
use Rattle.lw_kinds.proofs.derivations.names.Names.leads.Goals as goal

pub loop-from-init : goal.loop-from-init
loop-from-init c =
    let g = c.args.self.now.g.now in
    no_edges_below g (λ (caller : Rule). Leads g caller.body) c.in_ok-graph.graph (c.in_ok-graph.ensures.nodes ∙ ap length c.as_slice-rules.ensures) c.in_ok-graph.ensures.empty

pub loop-from-preserved : goal.loop-from-preserved
loop-from-preserved c =
    let g = c.args.self.now.g.now in
    let rules = c.as_slice-rules.result.now in
    let rule = c.index-rules-from.result in
    edges_more g (λ (caller : Rule). Leads g caller.body) c.loop-from.from rule
    (subst (λ rs. slice_get rs c.loop-from.from ≡ Some rule) c.as_slice-rules.ensures
    (slice_get_read rules (length rules) c.loop-from.from rule refl c.loop-from-test.true c.index-rules-from.is))
    c.loop-from.graph c.add_leads.new.graph c.loop-from.invariant c.in_ok-add_leads.ensures

pub returns : goal.returns
returns c =
    let g = c.args.self.now.g.now in
    all_edges g (λ (caller : Rule). Leads g caller.body) c.loop-from.from c.loop-from.graph
    (subst (λ rs. length rs ≤ c.loop-from.from) c.as_slice-rules.ensures c.loop-from-test.false) c.loop-from.invariant
