use Rattle.std.proofs.Common.{arith, rules, sym, ap, ◌∙◌, subst}
use Rattle.std.specs.Prelude.{codes}
use Rattle.std.proofs.lemmas.Result.{on_ok_weaker}
use Rattle.lw_grammar.specs.declared.terminal.TermElement.{out-TermElement, the_lemmas}
use Rattle.lw_grammar.specs.declared.terminal.TermElement.TheOpen as layer
use Rattle.lw_grammar.specs.declared.terminal.TermElement.TheVariants.{outs-Literal, outs-Range, outs-Pattern, outs-Call, outs-Group, outs-Choice, outs-Maybe, outs-Many, outs-Some1}
use Rattle.lw_tokens.specs.Patterns.{RowPattern, ChoicePattern, AlternativePattern, ElementPattern, as_row}
use Rattle.lw_terminals.specs.Drafts.{Writes}
use Rattle.lw_terminals.specs.Writing.{IsFoundAt}
use Rattle.lw_terminals.proofs.DraftLemmas.{Writes-grouped}
use Rattle.lw_terminals.proofs.ReadyForms.{read_there, ready_form, all_of}
use Rattle.lw_terminals.proofs.WrittenForms.{no_row, of_layer, literal_put, regex_put, row_put, choice_put, maybe_put, many_put, some_put, row_alternative, single_alternative, row_none, row_more, first_alternative, next_alternative}
use Rattle.lw_terminals.proofs.patterns.scribe.Scribe.+writing.Goals as goal
use Rattle.lw_terminals.proofs.patterns.scribe.Scribe.+writing.Goals.{put_choice-then-i-gt0+in_ok-put, put_choice-else-i-gt0}

pub put_alternative-put_row-requires : goal.put_alternative-put_row-requires
put_alternative-put_row-requires t c =
    let are = ready_form c.args.self.now.g.now (IsFoundAt c.args.self.now.written.now) c.in-Group.is (outs-Group _ ∙ ap (λ es. layer.Group es) (sym c.as_slice.ensures)) c.requires.ready in
    (search (rules, the_lemmas), (c.requires.knows, are))

pub put_choice-put_alternative-requires : goal.put_choice-put_alternative-requires
put_choice-put_alternative-requires t c =
    let is = all_of c.args.self.now.g.now (IsFoundAt c.args.self.now.written.now) c.args.parts.now c.index-parts-i.result c.requires.ready
    (read_there c.args.parts.now c.loop-i.i c.index-parts-i.result c.loop-i-test.true c.index-parts-i.is) in
    (search (rules, the_lemmas), (c.requires.knows, is))

pub put_choice-loop-i-preserved : goal.put_choice-loop-i-preserved
put_choice-loop-i-preserved t c =
    elim c.if-i-gt0.branch [
      | put_choice-then-i-gt0+in_ok-put w ↦
          next_alternative c.args.self.now.g.now c.args.parts.now c.loop-i.i c.index-parts-i.result c.loop-i-test.true c.index-parts-i.is w.if-i-gt0.true c.loop-i.invariant
          w.in_ok-put.ensures (subst (λ d. Writes (AlternativePattern c.args.self.now.g.now c.index-parts-i.result) d c.put_alternative.new.draft) w.draft-is c.in_ok-put_alternative.ensures)
      | put_choice-else-i-gt0 w ↦
          first_alternative c.args.self.now.g.now c.args.parts.now c.loop-i.i c.index-parts-i.result c.loop-i-test.true c.index-parts-i.is (omega (arith, w.if-i-gt0.false)) c.loop-i.invariant
          (subst (λ d. Writes (AlternativePattern c.args.self.now.g.now c.index-parts-i.result) d c.put_alternative.new.draft) w.draft-is c.in_ok-put_alternative.ensures)
    ]

pub put_element-put_range-requires : goal.put_element-put_range-requires
put_element-put_range-requires t c =
    ready_form c.args.self.now.g.now (IsFoundAt c.args.self.now.written.now) c.in-Range.is (outs-Range _ _ _) c.requires.ready

pub put_element-put_call-requires-clause-ready : goal.put_element-put_call-requires-clause-ready
put_element-put_call-requires-clause-ready t c =
    ready_form c.args.self.now.g.now (IsFoundAt c.args.self.now.written.now) c.in-Call.is (outs-Call _ _) c.requires.ready

pub put_element-put_grouped_row-requires : goal.put_element-put_grouped_row-requires
put_element-put_grouped_row-requires t c =
    let are = ready_form c.args.self.now.g.now (IsFoundAt c.args.self.now.written.now) c.in-Group.is (outs-Group _ ∙ ap (λ es. layer.Group es) (sym c.as_slice.ensures)) c.requires.ready in
    (search (rules, the_lemmas), (c.requires.knows, are))

pub put_element-put_grouped_choice-requires : goal.put_element-put_grouped_choice-requires
put_element-put_grouped_choice-requires t c =
    let are = ready_form c.args.self.now.g.now (IsFoundAt c.args.self.now.written.now) c.in-Choice.is (outs-Choice _ ∙ ap (λ es. layer.Choice es) (sym c.as_slice-in-Choice.ensures)) c.requires.ready in
    (search (rules, the_lemmas), (c.requires.knows, are))

pub put_element-put_marked-requires : goal.put_element-put_marked-requires
put_element-put_marked-requires t c =
    let is = ready_form c.args.self.now.g.now (IsFoundAt c.args.self.now.written.now) c.in-Maybe.is (outs-Maybe _ ∙ ap (λ e. layer.Maybe e) (sym c.get.ensures)) c.requires.ready in
    (search (rules, the_lemmas), (c.requires.knows, is))

pub put_element-put_marked-requires-in-Many : goal.put_element-put_marked-requires-in-Many
put_element-put_marked-requires-in-Many t c =
    let is = ready_form c.args.self.now.g.now (IsFoundAt c.args.self.now.written.now) c.in-Many.is (outs-Many _ ∙ ap (λ e. layer.Many e) (sym c.get-in-Many.ensures)) c.requires.ready in
    (search (rules, the_lemmas), (c.requires.knows, is))

pub put_element-put_marked-requires-in-Some1 : goal.put_element-put_marked-requires-in-Some1
put_element-put_marked-requires-in-Some1 t c =
    let is = ready_form c.args.self.now.g.now (IsFoundAt c.args.self.now.written.now) c.in-Some1.is (outs-Some1 _ ∙ ap (λ e. layer.Some1 e) (sym c.get-in-Some1.ensures)) c.requires.ready in
    (search (rules, the_lemmas), (c.requires.knows, is))

pub put_row-put_element-requires : goal.put_row-put_element-requires
put_row-put_element-requires t c =
    let is = all_of c.args.self.now.g.now (IsFoundAt c.args.self.now.written.now) c.args.parts.now c.part-item.result c.requires.ready
    (read_there c.args.parts.now c.loop-part.part-index c.part-item.result c.loop-part-test.true c.part-item.is) in
    (search (rules, the_lemmas), (c.requires.knows, is))

pub put_alternative-returns-in-Group : goal.put_alternative-returns-in-Group
put_alternative-returns-in-Group t c =
    on_ok_weaker c.put_row.result
    (row_alternative c.args.self.now.g.now c.as_slice.result.now (ap as_row (ap out-TermElement c.in-Group.is ∙ outs-Group _ ∙ ap (λ es. layer.Group es) (sym c.as_slice.ensures))))
    c.put_row.ensures

pub put_alternative-returns-in_default : goal.put_alternative-returns-in_default
put_alternative-returns-in_default t c =
    on_ok_weaker c.put_element.result (single_alternative c.args.self.now.g.now (no_row c.args.element.now c.in_default.not-Group)) c.put_element.ensures

pub put_element-returns-in-Literal : goal.put_element-returns-in-Literal
put_element-returns-in-Literal t c =
    on_ok_weaker c.put_escaped.result (λ puts. of_layer c.args.self.now.g.now c.in-Literal.is (outs-Literal _ _) (literal_put c.args.self.now.g.now puts)) c.put_escaped.ensures

pub put_element-returns-in-Range : goal.put_element-returns-in-Range
put_element-returns-in-Range t c =
    on_ok_weaker c.put_range.result (of_layer c.args.self.now.g.now c.in-Range.is (outs-Range _ _ _)) (c.put_range.ensures c.args.self.now.g.now c.in-Range.field-2)

pub put_element-returns-in-Pattern : goal.put_element-returns-in-Pattern
put_element-returns-in-Pattern t c =
    on_ok_weaker c.put_regex.result (λ puts. of_layer c.args.self.now.g.now c.in-Pattern.is (outs-Pattern _ _) (regex_put c.args.self.now.g.now puts)) c.put_regex.ensures

pub put_element-returns-in-Call : goal.put_element-returns-in-Call
put_element-returns-in-Call t c =
    on_ok_weaker c.put_call.result (of_layer c.args.self.now.g.now c.in-Call.is (outs-Call _ _)) (c.put_call.ensures c.in-Call.field-1)

pub put_element-returns-in-Group : goal.put_element-returns-in-Group
put_element-returns-in-Group t c =
    on_ok_weaker c.put_grouped_row.result
    (of_layer c.args.self.now.g.now c.in-Group.is (outs-Group _ ∙ ap (λ es. layer.Group es) (sym c.as_slice.ensures))) c.put_grouped_row.ensures

pub put_element-returns-in-Choice : goal.put_element-returns-in-Choice
put_element-returns-in-Choice t c =
    on_ok_weaker c.put_grouped_choice.result
    (of_layer c.args.self.now.g.now c.in-Choice.is (outs-Choice _ ∙ ap (λ es. layer.Choice es) (sym c.as_slice-in-Choice.ensures))) c.put_grouped_choice.ensures

pub put_element-returns-in-Maybe : goal.put_element-returns-in-Maybe
put_element-returns-in-Maybe t c =
    on_ok_weaker c.put_marked.result
    (λ writes. of_layer c.args.self.now.g.now c.in-Maybe.is (outs-Maybe _ ∙ ap (λ e. layer.Maybe e) (sym c.get.ensures)) (maybe_put c.args.self.now.g.now c.get.result.now writes))
    c.put_marked.ensures

pub put_element-returns-in-Many : goal.put_element-returns-in-Many
put_element-returns-in-Many t c =
    on_ok_weaker c.put_marked-in-Many.result
    (λ writes. of_layer c.args.self.now.g.now c.in-Many.is (outs-Many _ ∙ ap (λ e. layer.Many e) (sym c.get-in-Many.ensures))
    (many_put c.args.self.now.g.now c.get-in-Many.result.now writes))
    c.put_marked-in-Many.ensures

pub put_element-returns-in-Some1 : goal.put_element-returns-in-Some1
put_element-returns-in-Some1 t c =
    on_ok_weaker c.put_marked-in-Some1.result
    (λ writes. of_layer c.args.self.now.g.now c.in-Some1.is (outs-Some1 _ ∙ ap (λ e. layer.Some1 e) (sym c.get-in-Some1.ensures))
    (some_put c.args.self.now.g.now c.get-in-Some1.result.now writes))
    c.put_marked-in-Some1.ensures

pub put_grouped_choice-returns : goal.put_grouped_choice-returns
put_grouped_choice-returns t c =
    on_ok_weaker c.put-2.result
    (λ closes. choice_put c.args.self.now.g.now c.args.parts.now (Writes-grouped (ChoicePattern c.args.self.now.g.now c.args.parts.now) (codes ")") c.args.draft.now
    c.put.new.self c.put_choice.new.draft c.put-2.new.self c.in_ok-put.ensures c.in_ok-put_choice.ensures closes))
    c.put-2.ensures

pub put_grouped_row-returns : goal.put_grouped_row-returns
put_grouped_row-returns t c =
    on_ok_weaker c.put-2.result
    (λ closes. row_put c.args.self.now.g.now c.args.parts.now (Writes-grouped (RowPattern c.args.self.now.g.now c.args.parts.now) (codes ")") c.args.draft.now
    c.put.new.self c.put_row.new.draft c.put-2.new.self c.in_ok-put.ensures c.in_ok-put_row.ensures closes))
    c.put-2.ensures

pub put_marked-returns : goal.put_marked-returns
put_marked-returns t c =
    on_ok_weaker c.put-2.result
    (λ closes. Writes-grouped (ElementPattern c.args.self.now.g.now c.args.element.now) c.args.end.now c.args.draft.now
    c.put.new.self c.put_element.new.draft c.put-2.new.self c.in_ok-put.ensures c.in_ok-put_element.ensures closes)
    c.put-2.ensures

pub put_row-loop-part-init : goal.put_row-loop-part-init
put_row-loop-part-init t c = row_none c.args.self.now.g.now c.args.draft.now

pub put_row-loop-part-preserved : goal.put_row-loop-part-preserved
put_row-loop-part-preserved t c =
    row_more c.args.self.now.g.now c.args.parts.now c.loop-part.part-index c.part-item.result c.loop-part-test.true c.part-item.is c.loop-part.invariant c.in_ok-put_element.ensures
