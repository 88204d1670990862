use Rattle.std.proofs.Common.{◌+◌, Contains, OnOk, true≢false, length, refl, sym, ◌∙◌, subst, arith}
use Rattle.std.proofs.lemmas.Option.{slice_get_read}
use Rattle.lw_grammar.specs.declared.rule.Element.{Element}
use Rattle.lw_grammar.specs.declared.rule.Element.TheVariants.{outs-Keyword, outs-Call, outs-Assign, outs-Act, outs-Group, outs-Choice, outs-Maybe, outs-Many, outs-Some1}
use Rattle.lw_faults.specs.Reads.{MayRead, ValueLeads, Leads, LeadsAll}
use Rattle.lw_kinds.specs.Edges.{SomeBelow, AddsEdges, IsNamedSo}
use Rattle.lw_kinds.proofs.EdgeLemmas.{AddsEdges-same, AddsEdges-first, AddsEdges-more, AddsEdges-all}
use Rattle.lw_kinds.proofs.BelowLemmas.{each_more}
use Rattle.lw_kinds.proofs.Exact.{reads_nothing_if, passes_if}
use Rattle.lw_kinds.proofs.NamedRules.{IsThisName, added_by, added_none, added_some}
use Rattle.lw_kinds.proofs.LeadForms.{leads_by}
use Rattle.lw_kinds.proofs.RowLeads.{row_ended, row_stopped}
use Rattle.lw_kinds.proofs.derivations.names.Names.+leads.Goals as goal

pub add_leads-returns-in-Keyword : goal.add_leads-returns-in-Keyword
add_leads-returns-in-Keyword t c =
    let g = c.args.self.now.g.now in
    added_none g c.args.from (Leads g c.args.element.now) (λ name. (leads_by g c.in-Keyword.is (outs-Keyword _ _) name).1) c.args.graph.now

pub add_leads-returns-in-Call : goal.add_leads-returns-in-Call
add_leads-returns-in-Call t c =
    let g = c.args.self.now.g.now in
    added_by g c.add_call.result c.args.from (IsThisName g c.in-Call.name) (Leads g c.args.element.now) (leads_by g c.in-Call.is (outs-Call _ _)) c.args.graph.now
    c.add_call.new.graph c.add_call.ensures

pub add_leads-returns-in-Assign : goal.add_leads-returns-in-Assign
add_leads-returns-in-Assign t c =
    let g = c.args.self.now.g.now in
    added_by g c.add_value.result c.args.from (ValueLeads g c.in-Assign.value) (Leads g c.args.element.now) (leads_by g c.in-Assign.is (outs-Assign _ _ _ _)) c.args.graph.now
    c.add_value.new.graph c.add_value.ensures

pub add_leads-returns-in-Act : goal.add_leads-returns-in-Act
add_leads-returns-in-Act t c =
    let g = c.args.self.now.g.now in
    added_none g c.args.from (Leads g c.args.element.now) (λ name. (leads_by g c.in-Act.is (outs-Act _) name).1) c.args.graph.now

pub add_leads-returns-in-Group : goal.add_leads-returns-in-Group
add_leads-returns-in-Group t c =
    let g = c.args.self.now.g.now in
    added_by g c.add_row.result c.args.from (LeadsAll g c.in-Group.parts) (Leads g c.args.element.now) (leads_by g c.in-Group.is (outs-Group _ _)) c.args.graph.now c.add_row.new.graph
    (subst (λ es. OnOk c.add_row.result (AddsEdges c.args.from (IsNamedSo g (LeadsAll g es)) c.args.graph.now c.add_row.new.graph)) c.as_slice.ensures c.add_row.ensures)

pub add_leads-returns-in-Choice : goal.add_leads-returns-in-Choice
add_leads-returns-in-Choice t c =
    let g = c.args.self.now.g.now in
    let es = c.in-Choice.parts in
    added_by g c.add_choice.result c.args.from (λ name. (e : Element) × Contains es e × Leads g e name) (Leads g c.args.element.now)
    (leads_by g c.in-Choice.is (outs-Choice _ _)) c.args.graph.now c.add_choice.new.graph
    (added_some g c.add_choice.result c.args.from (Leads g) es c.args.graph.now c.add_choice.new.graph
    (subst (λ xs. OnOk c.add_choice.result (AddsEdges c.args.from (λ b. (e : Element) × Contains xs e × IsNamedSo g (Leads g e) b) c.args.graph.now c.add_choice.new.graph)) c.as_slice-in-Choice.ensures
    c.add_choice.ensures))

pub add_leads-returns-in-Maybe : goal.add_leads-returns-in-Maybe
add_leads-returns-in-Maybe t c =
    let g = c.args.self.now.g.now in
    added_by g c.add_leads.result c.args.from (Leads g c.in-Maybe.part) (Leads g c.args.element.now) (leads_by g c.in-Maybe.is (outs-Maybe _ _)) c.args.graph.now c.add_leads.new.graph
    (subst (λ e. OnOk c.add_leads.result (AddsEdges c.args.from (IsNamedSo g (Leads g e)) c.args.graph.now c.add_leads.new.graph)) c.get.ensures c.add_leads.ensures)

pub add_leads-returns-in-Many : goal.add_leads-returns-in-Many
add_leads-returns-in-Many t c =
    let g = c.args.self.now.g.now in
    let called = c.add_leads-in-Many in
    added_by g called.result c.args.from (Leads g c.in-Many.part) (Leads g c.args.element.now) (leads_by g c.in-Many.is (outs-Many _ _)) c.args.graph.now called.new.graph
    (subst (λ e. OnOk called.result (AddsEdges c.args.from (IsNamedSo g (Leads g e)) c.args.graph.now called.new.graph)) c.get-in-Many.ensures called.ensures)

pub add_leads-returns-in-Some1 : goal.add_leads-returns-in-Some1
add_leads-returns-in-Some1 t c =
    let g = c.args.self.now.g.now in
    let called = c.add_leads-in-Some1 in
    added_by g called.result c.args.from (Leads g c.in-Some1.part) (Leads g c.args.element.now) (leads_by g c.in-Some1.is (outs-Some1 _ _)) c.args.graph.now called.new.graph
    (subst (λ e. OnOk called.result (AddsEdges c.args.from (IsNamedSo g (Leads g e)) c.args.graph.now called.new.graph)) c.get-in-Some1.ensures called.ensures)

pub add_row-loop-element-init : goal.add_row-loop-element-init
add_row-loop-element-init t c =
    let g = c.args.self.now.g.now in
    record {
      adds = AddsEdges-first c.args.from (λ e. IsNamedSo g (Leads g e)) c.args.elements.now c.args.graph.now;
      nothing = λ k e below there. absurd (omega (arith, below));
    }

pub add_row-loop-element-preserved : goal.add_row-loop-element-preserved
add_row-loop-element-preserved t c =
    let g = c.args.self.now.g.now in
    let es = c.args.elements.now in
    let i = c.loop-element.element-index in
    let e = c.element-item.result in
    record {
      adds = AddsEdges-more c.args.from (λ e. IsNamedSo g (Leads g e)) es i e c.loop-element-test.true c.element-item.is c.args.graph.now c.loop-element.graph c.add_leads.new.graph
          c.loop-element.invariant.adds c.in_ok-add_leads.ensures;
      nothing = each_more (λ e. MayRead g e 0) es i e (slice_get_read es (length es) i e refl c.loop-element-test.true c.element-item.is) c.loop-element.invariant.nothing
          (reads_nothing_if g c.args.nothing.now c.requires.nothing e (c.passes.ensures.0 c.if-not-passes.false));
    }

pub add_row-returns-then-not-passes : goal.add_row-returns-then-not-passes
add_row-returns-then-not-passes t c =
    let g = c.args.self.now.g.now in
    let es = c.args.elements.now in
    let i = c.loop-element.element-index in
    let e = c.element-item.result in
    AddsEdges-same c.args.from (λ b. SomeBelow (λ _ e. IsNamedSo g (Leads g e) b) es (i + 1)) (IsNamedSo g (LeadsAll g es))
    (λ b. row_stopped g es b i e (slice_get_read es (length es) i e refl c.loop-element-test.true c.element-item.is) c.loop-element.invariant.nothing
    (λ none. true≢false (sym (c.passes.ensures.1 (passes_if g c.args.nothing.now c.requires.nothing e none)) ∙ c.if-not-passes.true)))
    c.args.graph.now c.add_leads.new.graph
    (AddsEdges-more c.args.from (λ e. IsNamedSo g (Leads g e)) es i e c.loop-element-test.true c.element-item.is c.args.graph.now c.loop-element.graph c.add_leads.new.graph
    c.loop-element.invariant.adds c.in_ok-add_leads.ensures)

pub add_row-returns : goal.add_row-returns
add_row-returns t c =
    let g = c.args.self.now.g.now in
    let es = c.args.elements.now in
    AddsEdges-same c.args.from (λ b. SomeBelow (λ _ e. IsNamedSo g (Leads g e) b) es c.loop-element.element-index) (IsNamedSo g (LeadsAll g es))
    (λ b. row_ended g es b c.loop-element.element-index c.loop-element-test.false c.loop-element.invariant.nothing) c.args.graph.now c.loop-element.graph c.loop-element.invariant.adds

pub add_choice-loop-element-init : goal.add_choice-loop-element-init
add_choice-loop-element-init t c =
    let g = c.args.self.now.g.now in AddsEdges-first c.args.from (λ e. IsNamedSo g (Leads g e)) c.args.elements.now c.args.graph.now

pub add_choice-loop-element-preserved : goal.add_choice-loop-element-preserved
add_choice-loop-element-preserved t c =
    let g = c.args.self.now.g.now in
    AddsEdges-more c.args.from (λ e. IsNamedSo g (Leads g e)) c.args.elements.now c.loop-element.element-index c.element-item.result c.loop-element-test.true c.element-item.is
    c.args.graph.now c.loop-element.graph c.add_leads.new.graph c.loop-element.invariant c.in_ok-add_leads.ensures

pub add_choice-returns : goal.add_choice-returns
add_choice-returns t c =
    let g = c.args.self.now.g.now in
    AddsEdges-all c.args.from (λ e. IsNamedSo g (Leads g e)) c.args.elements.now c.loop-element.element-index c.loop-element-test.false c.args.graph.now c.loop-element.graph
    c.loop-element.invariant
