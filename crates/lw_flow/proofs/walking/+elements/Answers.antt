use Rattle.std.proofs.Common.{◌≡◌, ◌↔◌, ◌+◌, List, [], Contains, take, length, refl, sym, ap, ◌∙◌, subst, arith}
use Rattle.std.specs.List.{flat_map}
use Rattle.std.proofs.lemmas.List.{take_all}
use Rattle.std.proofs.lemmas.Option.{slice_get_read}
use Rattle.std.proofs.lemmas.Result.{IfOk-weaker}
use Rattle.lw_grammar.specs.declared.rule.Element.{Element, out-Element}
use Rattle.lw_grammar.specs.declared.rule.Element.TheVariants as element
use Rattle.lw_grammar.specs.Leaves as leaf
use Rattle.lw_grammar.specs.Leaves.{Leaf, leaves}
use Rattle.lw_grammar.proofs.LeafLemmas.{leaves-Keyword, leaves-Call, leaves-Assign, leaves-Act, leaves-Group, leaves-Choice, leaves-Maybe, leaves-Many}
use Rattle.lw_flow.specs.declared.effect.Mark.{Mark}
use Rattle.lw_flow.specs.Rows.{InTable}
use Rattle.lw_flow.specs.Sets.{IsMoved}
use Rattle.lw_flow.specs.Visits.{PutsVisits, AtLeaf, AgainAt, InRow, InSome}
use Rattle.lw_flow.proofs.DoingLemmas.{via}
use Rattle.lw_flow.proofs.SetLemmas.{copied_marks}
use Rattle.lw_flow.proofs.VisitLemmas.{visits_one, visits_none, visits_same, visits_both}
use Rattle.lw_flow.proofs.KnownLemmas.{row_leaves, leaves_more, leaves-Some1, keyword_known, call_known, assign_known, act_known, group_known, choice_known, maybe_known, many_known, some_known, again_known, moved_none, moved_more, row_known, row_none, each_known, each_none}
use Rattle.lw_flow.proofs.walking.+elements.Goals as goal

pub walk-returns-in-Keyword : goal.walk-returns-in-Keyword
walk-returns-in-Keyword t c =
    let g = c.args.source.now.grammar.now in
    let T = InTable c.args.table.now in
    let start = c.args.start.now in
    let is = ap out-Element c.in-Keyword.is ∙ element.outs-Keyword _ _ in
    IfOk-weaker c.put_visit.result _ _ (λ _ pushed.
    visits_one g (AtLeaf g T start c.args.element.now) (leaf.Keyword c.in-Keyword.field-0 c.in-Keyword.field-1) (ap leaves c.in-Keyword.is ∙ leaves-Keyword _ _) (λ (f, fragment, also). also) (keyword_known g T start is) pushed)
    c.put_visit.ensures

pub walk-returns-in-Call : goal.walk-returns-in-Call
walk-returns-in-Call t c =
    let g = c.args.source.now.grammar.now in
    let T = InTable c.args.table.now in
    let start = c.args.start.now in
    let is = ap out-Element c.in-Call.is ∙ element.outs-Call _ _ in
    IfOk-weaker c.put_visit-in-Call.result _ _ (λ _ pushed.
    visits_one g (AtLeaf g T start c.args.element.now) (leaf.Call c.in-Call.name c.in-Call.field-1) (ap leaves c.in-Call.is ∙ leaves-Call _ _) (c.entered.ensures c.in-Call.field-1) (call_known g T start is) pushed)
    c.put_visit-in-Call.ensures

pub walk-returns-in-Assign : goal.walk-returns-in-Assign
walk-returns-in-Assign t c =
    let g = c.args.source.now.grammar.now in
    let T = InTable c.args.table.now in
    let start = c.args.start.now in
    let is = ap out-Element c.in-Assign.is ∙ element.outs-Assign _ _ _ _ in
    IfOk-weaker c.put_visit-in-Assign.result _ _ (λ _ pushed.
    visits_one g (AtLeaf g T start c.args.element.now) (leaf.Assign c.in-Assign.field-0 c.in-Assign.field-1 c.in-Assign.field-2 c.in-Assign.field-3) (ap leaves c.in-Assign.is ∙ leaves-Assign _ _ _ _) (λ (f, fragment, also). also) (assign_known g T start is) pushed)
    c.put_visit-in-Assign.ensures

pub walk-returns-in-Act : goal.walk-returns-in-Act
walk-returns-in-Act t c =
    let g = c.args.source.now.grammar.now in
    let T = InTable c.args.table.now in
    let start = c.args.start.now in
    let is = ap out-Element c.in-Act.is ∙ element.outs-Act _ in
    IfOk-weaker c.put_visit-in-Act.result _ _ (λ _ pushed.
    visits_one g (AtLeaf g T start c.args.element.now) (leaf.Act c.in-Act.field-0) (ap leaves c.in-Act.is ∙ leaves-Act _) (λ (f, fragment, also). also) (act_known g T start is) pushed)
    c.put_visit-in-Act.ensures

pub walk-returns-in-Group : goal.walk-returns-in-Group
walk-returns-in-Group t c =
    let g = c.args.source.now.grammar.now in
    let T = InTable c.args.table.now in
    let start = c.args.start.now in
    let old = c.args.visits.now.items in
    let new = c.walk_row.new.visits.items in
    let is = ap out-Element c.in-Group.is ∙ element.outs-Group _ _ in
    IfOk-weaker c.walk_row.result _ _ (λ _ visits.
    visits_same g (InRow g T start c.in-Group.parts (length c.in-Group.parts)) (AtLeaf g T start c.args.element.now) (group_known g T start is) (sym (row_leaves c.in-Group.parts) ∙ sym (leaves-Group _ _) ∙ ap leaves (sym c.in-Group.is))
    (subst (λ (parts : List Element). PutsVisits g (InRow g T start parts (length parts)) (flat_map leaves parts) old new) c.as_slice.ensures visits)) c.walk_row.ensures

pub walk-returns-in-Choice : goal.walk-returns-in-Choice
walk-returns-in-Choice t c =
    let g = c.args.source.now.grammar.now in
    let T = InTable c.args.table.now in
    let start = c.args.start.now in
    let old = c.args.visits.now.items in
    let new = c.walk_each.new.visits.items in
    let is = ap out-Element c.in-Choice.is ∙ element.outs-Choice _ _ in
    IfOk-weaker c.walk_each.result _ _ (λ _ visits.
    visits_same g (InSome g T start c.in-Choice.parts) (AtLeaf g T start c.args.element.now) (choice_known g T start is) (sym (row_leaves c.in-Choice.parts) ∙ sym (leaves-Choice _ _) ∙ ap leaves (sym c.in-Choice.is))
    (subst (λ (parts : List Element). PutsVisits g (InSome g T start parts) (flat_map leaves parts) old new) c.as_slice-in-Choice.ensures visits)) c.walk_each.ensures

pub walk-returns-in-Maybe : goal.walk-returns-in-Maybe
walk-returns-in-Maybe t c =
    let g = c.args.source.now.grammar.now in
    let T = InTable c.args.table.now in
    let start = c.args.start.now in
    let old = c.args.visits.now.items in
    let new = c.walk.new.visits.items in
    let is = ap out-Element c.in-Maybe.is ∙ element.outs-Maybe _ _ in
    IfOk-weaker c.walk.result _ _ (λ _ visits.
    visits_same g (AtLeaf g T start c.in-Maybe.part) (AtLeaf g T start c.args.element.now) (maybe_known g T start is) (sym (leaves-Maybe _ _) ∙ ap leaves (sym c.in-Maybe.is))
    (subst (λ (part : Element). PutsVisits g (AtLeaf g T start part) (leaves part) old new) c.get.ensures visits)) c.walk.ensures

pub walk-returns-in-Many : goal.walk-returns-in-Many
walk-returns-in-Many t c =
    let g = c.args.source.now.grammar.now in
    let T = InTable c.args.table.now in
    let start = c.args.start.now in
    let old = c.args.visits.now.items in
    let new = c.walk_again.new.visits.items in
    let is = ap out-Element c.in-Many.is ∙ element.outs-Many _ _ in
    IfOk-weaker c.walk_again.result _ _ (λ _ visits.
    visits_same g (AgainAt g T start c.in-Many.part) (AtLeaf g T start c.args.element.now) (many_known g T start is) (sym (leaves-Many _ _) ∙ ap leaves (sym c.in-Many.is))
    (subst (λ (part : Element). PutsVisits g (AgainAt g T start part) (leaves part) old new) c.get-in-Many.ensures visits)) c.walk_again.ensures

pub walk-returns-in-Some1 : goal.walk-returns-in-Some1
walk-returns-in-Some1 t c =
    let g = c.args.source.now.grammar.now in
    let T = InTable c.args.table.now in
    let start = c.args.start.now in
    let old = c.args.visits.now.items in
    let new = c.walk_again-in-Some1.new.visits.items in
    let is = ap out-Element c.in-Some1.is ∙ element.outs-Some1 _ _ in
    IfOk-weaker c.walk_again-in-Some1.result _ _ (λ _ visits.
    visits_same g (AgainAt g T start c.in-Some1.part) (AtLeaf g T start c.args.element.now) (some_known g T start is) (sym (leaves-Some1 _ _) ∙ ap leaves (sym c.in-Some1.is))
    (subst (λ (part : Element). PutsVisits g (AgainAt g T start part) (leaves part) old new) c.get-in-Some1.ensures visits)) c.walk_again-in-Some1.ensures

pub walk_again-returns : goal.walk_again-returns
walk_again-returns t c =
    let g = c.args.source.now.grammar.now in
    let T = InTable c.args.table.now in
    let start = c.args.start.now in
    let part = c.args.part.now in
    let turns = c.in_ok-turns.turns.keys in
    let moved = subst (λ ys. (m : Mark) → Contains c.in_ok-marks.marks.keys m ↔ IsMoved start ys m) c.as_slice.ensures.keys c.in_ok-marks.ensures in
    IfOk-weaker c.walk.result _ _ (λ _ visits.
    visits_same g (AtLeaf g T c.as_slice-2.result.now part) (AgainAt g T start part)
    (again_known g T start part turns c.as_slice-2.result.now c.in_ok-turns.ensures
    (subst (λ ms. (m : Mark) → Contains ms m ↔ IsMoved start turns m) (sym c.as_slice-2.ensures.keys) moved)) refl visits)
    c.walk.ensures

pub walk_row-loop-part-init : goal.walk_row-loop-part-init
walk_row-loop-part-init t c =
    let g = c.args.source.now.grammar.now in
    let T = InTable c.args.table.now in
    let start = c.args.start.now in
    let parts = c.args.parts.now in
    record {
      moved = λ m. via (copied_marks c.in_ok-marks.marks.keys start c.in_ok-marks.ensures m) (moved_none g T start parts m);
      visits = visits_none g (InRow g T start parts 0) c.args.visits.now.items (row_none g T start parts);
    }

pub walk_row-loop-part-preserved : goal.walk_row-loop-part-preserved
walk_row-loop-part-preserved t c =
    let g = c.args.source.now.grammar.now in
    let T = InTable c.args.table.now in
    let start = c.args.start.now in
    let parts = c.args.parts.now in
    let i = c.loop-part.part-index in
    let part = c.part-item.result in
    let at = slice_get_read parts (length parts) i part refl c.loop-part-test.true c.part-item.is in
    record {
      moved =
          moved_more g T start parts i part at c.loop-part.marks.keys c.in_ok-marks-2.marks.keys c.in_ok-more.more.keys c.as_slice-in-loop-part-2.result.now
          c.loop-part.invariant.moved c.in_ok-more.ensures c.as_slice-in-loop-part-2.ensures.keys c.as_slice-in-loop-part.result.now c.as_slice-in-loop-part.ensures.keys
          c.in_ok-marks-2.ensures;
      visits =
          visits_both g (InRow g T start parts i) (AtLeaf g T c.as_slice.result.now part) (InRow g T start parts (i + 1))
          (row_known g T start parts i part at c.loop-part.marks.keys c.as_slice.result.now c.as_slice.ensures.keys c.loop-part.invariant.moved)
          (leaves_more parts i part c.loop-part-test.true c.part-item.is) c.loop-part.invariant.visits c.in_ok-walk.ensures;
    }

pub walk_row-returns : goal.walk_row-returns
walk_row-returns t c =
    let g = c.args.source.now.grammar.now in
    let T = InTable c.args.table.now in
    let start = c.args.start.now in
    let parts = c.args.parts.now in
    let end : c.loop-part.part-index ≡ length parts = omega (arith, c.loop-part-test.false, c.loop-part.auto) in
    visits_same g (InRow g T start parts c.loop-part.part-index) (InRow g T start parts (length parts))
    (λ l m. subst (λ n. InRow g T start parts c.loop-part.part-index l m ↔ InRow g T start parts n l m) end (λ row. row, λ row. row))
    (ap (flat_map leaves) (take_all c.loop-part.part-index parts c.loop-part-test.false)) c.loop-part.invariant.visits

pub walk_each-loop-part-init : goal.walk_each-loop-part-init
walk_each-loop-part-init t c =
    let g = c.args.source.now.grammar.now in
    let T = InTable c.args.table.now in
    visits_none g (InSome g T c.args.start.now []) c.args.visits.now.items (each_none g T c.args.start.now)

pub walk_each-loop-part-preserved : goal.walk_each-loop-part-preserved
walk_each-loop-part-preserved t c =
    let g = c.args.source.now.grammar.now in
    let T = InTable c.args.table.now in
    let start = c.args.start.now in
    let parts = c.args.parts.now in
    let i = c.loop-part.part-index in
    let part = c.part-item.result in
    visits_both g (InSome g T start (take i parts)) (AtLeaf g T start part) (InSome g T start (take (i + 1) parts))
    (each_known g T start parts i part c.loop-part-test.true c.part-item.is) (leaves_more parts i part c.loop-part-test.true c.part-item.is) c.loop-part.invariant
    c.in_ok-walk.ensures

pub walk_each-returns : goal.walk_each-returns
walk_each-returns t c =
    let g = c.args.source.now.grammar.now in
    let T = InTable c.args.table.now in
    subst (λ (parts : List Element). PutsVisits g (InSome g T c.args.start.now parts) (flat_map leaves parts) c.args.visits.now.items c.loop-part.visits.items)
    (take_all c.loop-part.part-index c.args.parts.now c.loop-part-test.false) c.loop-part.invariant
