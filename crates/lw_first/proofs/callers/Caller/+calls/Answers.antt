use Rattle.std.proofs.Common.{Contains, OnOk, subst}
use Rattle.lw_grammar.specs.declared.rule.Element.{Element}
use Rattle.lw_grammar.specs.declared.rule.Element.TheVariants.{outs-Keyword, outs-Call, outs-Assign, outs-Act, outs-Group, outs-Choice, outs-Maybe, outs-Many, outs-Some1}
use Rattle.lw_look.specs.Sites.{Body}
use Rattle.lw_first.specs.Calling.{AddsCalls, HasCall}
use Rattle.lw_first.proofs.CallingForms.{element_adds_calls, no_element_calls}
use Rattle.lw_first.proofs.callers.Caller.+calls.Goals as goal

pub element-returns-in-Keyword : goal.element-returns-in-Keyword
element-returns-in-Keyword t c =
    no_element_calls c.args.self.now.number c.args.self.now.lexicon.g.now c.args.graph.now c.in-Keyword.is (outs-Keyword _ _) (λ r calls. calls)

pub element-returns-in-Call : goal.element-returns-in-Call
element-returns-in-Call t c =
    element_adds_calls c.args.self.now.number c.args.self.now.lexicon.g.now c.call.result c.args.graph.now c.call.new.graph c.in-Call.is (outs-Call _ _) c.call.ensures

pub element-returns-in-Assign : goal.element-returns-in-Assign
element-returns-in-Assign t c =
    element_adds_calls c.args.self.now.number c.args.self.now.lexicon.g.now c.value.result c.args.graph.now c.value.new.graph c.in-Assign.is (outs-Assign _ _ _ _) c.value.ensures

pub element-returns-in-Act : goal.element-returns-in-Act
element-returns-in-Act t c = no_element_calls c.args.self.now.number c.args.self.now.lexicon.g.now c.args.graph.now c.in-Act.is (outs-Act _) (λ r calls. calls)

pub element-returns-in-Group : goal.element-returns-in-Group
element-returns-in-Group t c =
    let g = c.args.self.now.lexicon.g.now in
    let number = c.args.self.now.number in
    element_adds_calls number g c.elements.result c.args.graph.now c.elements.new.graph c.in-Group.is (outs-Group _ _)
    (subst (λ es. OnOk c.elements.result (AddsCalls number (λ r. (e : Element) × Contains es e × HasCall g (Body e) r) c.args.graph.now c.elements.new.graph)) c.as_slice.ensures
    c.elements.ensures)

pub element-returns-in-Choice : goal.element-returns-in-Choice
element-returns-in-Choice t c =
    let g = c.args.self.now.lexicon.g.now in
    let number = c.args.self.now.number in
    let called = c.elements-in-Choice in
    element_adds_calls number g called.result c.args.graph.now called.new.graph c.in-Choice.is (outs-Choice _ _)
    (subst (λ es. OnOk called.result (AddsCalls number (λ r. (e : Element) × Contains es e × HasCall g (Body e) r) c.args.graph.now called.new.graph)) c.as_slice-in-Choice.ensures
    called.ensures)

pub element-returns-in-Maybe : goal.element-returns-in-Maybe
element-returns-in-Maybe t c =
    let g = c.args.self.now.lexicon.g.now in
    let number = c.args.self.now.number in
    element_adds_calls number g c.element.result c.args.graph.now c.element.new.graph c.in-Maybe.is (outs-Maybe _ _)
    (subst (λ e. OnOk c.element.result (AddsCalls number (HasCall g (Body e)) c.args.graph.now c.element.new.graph)) c.get.ensures c.element.ensures)

pub element-returns-in-Many : goal.element-returns-in-Many
element-returns-in-Many t c =
    let g = c.args.self.now.lexicon.g.now in
    let number = c.args.self.now.number in
    let called = c.element-in-Many in
    element_adds_calls number g called.result c.args.graph.now called.new.graph c.in-Many.is (outs-Many _ _)
    (subst (λ e. OnOk called.result (AddsCalls number (HasCall g (Body e)) c.args.graph.now called.new.graph)) c.get-in-Many.ensures called.ensures)

pub element-returns-in-Some1 : goal.element-returns-in-Some1
element-returns-in-Some1 t c =
    let g = c.args.self.now.lexicon.g.now in
    let number = c.args.self.now.number in
    let called = c.element-in-Some1 in
    element_adds_calls number g called.result c.args.graph.now called.new.graph c.in-Some1.is (outs-Some1 _ _)
    (subst (λ e. OnOk called.result (AddsCalls number (HasCall g (Body e)) c.args.graph.now called.new.graph)) c.get-in-Some1.ensures called.ensures)
