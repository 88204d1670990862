use Rattle.std.proofs.Common.{◌≡◌, ◌+◌, [], ◌∷◌, length, map, refl, sym, ap, ◌∙◌, subst, arith}
use Rattle.std.proofs.lemmas.Option.{slice_get_read}
use Rattle.std.proofs.lemmas.List.{map-append}
use Rattle.lw_flow.specs.Rows.{InTable}
use Rattle.lw_flow.specs.Whole.{AreRowsOf, items_of}
use Rattle.lw_flow.proofs.FixedLemmas.{rule_at}
use Rattle.lw_flow.proofs.WholeLemmas.{no_rows, rows_more}
use Rattle.lw_flow.proofs.rows.rows.Goals as goal

pub loop-number-init : goal.loop-number-init
loop-number-init c =
    let g = c.args.source.now.grammar.now in
    let T = InTable c.args.table.now in
    subst (λ rows. AreRowsOf g T c.args.marks.now 0 (map items_of rows)) (sym c.new-rows.ensures.items) (no_rows g T c.args.marks.now)

pub loop-number-preserved : goal.loop-number-preserved
loop-number-preserved c =
    let g = c.args.source.now.grammar.now in
    let T = InTable c.args.table.now in
    let marks = c.args.marks.now in
    let n = c.loop-number.number in
    let same = ap length c.as_slice-rules.ensures in
    let rule = c.index-rules-number.result in
    let start = c.index-marks-number.result in
    let list = c.in_ok-row.field-0 in
    subst (AreRowsOf g T marks (n + 1)) (sym (ap (map items_of) c.in_ok-push.ensures.items ∙ map-append items_of c.loop-number.rows.items (list ∷ [])))
    (rows_more g T marks n (map items_of c.loop-number.rows.items) rule start c.as_slice-start.result.now list.items
    (rule_at c.as_slice-rules.result.now g.rules n rule c.as_slice-rules.ensures (omega (arith, same, c.loop-number-test.true)) c.index-rules-number.is)
    (slice_get_read marks (length marks) n start refl (omega (arith, same, c.loop-number-test.true, c.requires.marks_sized)) c.index-marks-number.is)
    c.as_slice-start.ensures.keys c.loop-number.invariant c.in_ok-row.ensures)

pub returns : goal.returns
returns c =
    let g = c.args.source.now.grammar.now in
    let same = ap length c.as_slice-rules.ensures in
    let end : c.loop-number.number ≡ length g.rules = omega (arith, same, c.loop-number-test.false, c.loop-number.auto) in
    subst (λ n. AreRowsOf g (InTable c.args.table.now) c.args.marks.now n (map items_of c.loop-number.rows.items)) end c.loop-number.invariant
