use Rattle.std.proofs.Common.{Contains, OnOk, subst}
use Rattle.lw_grammar.specs.declared.rule.Value0.{Value0}
use Rattle.lw_grammar.specs.declared.rule.Value0.TheVariants.{outs-Keyword, outs-Call, outs-Cross, outs-Choice}
use Rattle.lw_faults.specs.Reads.{ValueLeads}
use Rattle.lw_kinds.specs.Crossing.{IsReadBy}
use Rattle.lw_kinds.specs.Edges.{AddsEdges, IsNamedSo}
use Rattle.lw_kinds.proofs.EdgeLemmas.{AddsEdges-first, AddsEdges-more, AddsEdges-all}
use Rattle.lw_kinds.proofs.NamedRules.{IsThisName, added_by, added_none, added_some}
use Rattle.lw_kinds.proofs.LeadForms.{value_leads_by}
use Rattle.lw_kinds.proofs.derivations.names.Names.+values_called.Goals as goal

pub add_value-returns-in-Keyword : goal.add_value-returns-in-Keyword
add_value-returns-in-Keyword t c =
    let g = c.args.self.now.g.now in
    added_none g c.args.from (ValueLeads g c.args.value.now) (λ name. (value_leads_by g c.in-Keyword.is (outs-Keyword _ _) name).1) c.args.graph.now

pub add_value-returns-in-Call : goal.add_value-returns-in-Call
add_value-returns-in-Call t c =
    let g = c.args.self.now.g.now in
    added_by g c.add_call.result c.args.from (IsThisName g c.in-Call.name) (ValueLeads g c.args.value.now) (value_leads_by g c.in-Call.is (outs-Call _ _)) c.args.graph.now
    c.add_call.new.graph c.add_call.ensures

pub add_value-returns-in-Cross : goal.add_value-returns-in-Cross
add_value-returns-in-Cross t c =
    let g = c.args.self.now.g.now in
    added_by g c.add_cross.result c.args.from (IsReadBy g c.in-Cross.wanted c.in-Cross.rule) (ValueLeads g c.args.value.now) (value_leads_by g c.in-Cross.is (outs-Cross _ _ _))
    c.args.graph.now c.add_cross.new.graph c.add_cross.ensures

pub add_value-returns-in-Choice : goal.add_value-returns-in-Choice
add_value-returns-in-Choice t c =
    let g = c.args.self.now.g.now in
    let vs = c.in-Choice.values in
    added_by g c.add_values.result c.args.from (λ name. (v : Value0) × Contains vs v × ValueLeads g v name) (ValueLeads g c.args.value.now)
    (value_leads_by g c.in-Choice.is (outs-Choice _ _)) c.args.graph.now c.add_values.new.graph
    (added_some g c.add_values.result c.args.from (ValueLeads g) vs c.args.graph.now c.add_values.new.graph
    (subst (λ ws. OnOk c.add_values.result (AddsEdges c.args.from (λ b. (v : Value0) × Contains ws v × IsNamedSo g (ValueLeads g v) b) c.args.graph.now c.add_values.new.graph)) c.as_slice.ensures
    c.add_values.ensures))

pub add_values-loop-value-init : goal.add_values-loop-value-init
add_values-loop-value-init t c =
    let g = c.args.self.now.g.now in AddsEdges-first c.args.from (λ v. IsNamedSo g (ValueLeads g v)) c.args.values.now c.args.graph.now

pub add_values-loop-value-preserved : goal.add_values-loop-value-preserved
add_values-loop-value-preserved t c =
    let g = c.args.self.now.g.now in
    AddsEdges-more c.args.from (λ v. IsNamedSo g (ValueLeads g v)) c.args.values.now c.loop-value.value-index c.value-item.result c.loop-value-test.true c.value-item.is
    c.args.graph.now c.loop-value.graph c.add_value.new.graph c.loop-value.invariant c.in_ok-add_value.ensures

pub add_values-returns : goal.add_values-returns
add_values-returns t c =
    let g = c.args.self.now.g.now in
    AddsEdges-all c.args.from (λ v. IsNamedSo g (ValueLeads g v)) c.args.values.now c.loop-value.value-index c.loop-value-test.false c.args.graph.now c.loop-value.graph
    c.loop-value.invariant
