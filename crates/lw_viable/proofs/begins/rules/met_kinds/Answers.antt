-- Row after row is told.
use Rattle.std.proofs.Common.{◌+◌, ◌∷◌, [], map, length, refl, sym, ap, ◌∙◌, subst}
use Rattle.std.proofs.lemmas.List.{map-append}
use Rattle.std.proofs.lemmas.Option.{slice_get_read}
use Rattle.lw_viable.proofs.BeginsMade.{MadeUpTo, one_more, all_made}
use Rattle.lw_viable.proofs.Meeting.{TellsRow, row_meets}
use Rattle.lw_viable.proofs.begins.rules.met_kinds.Goals as goal

pub loop-heads-preserved : goal.loop-heads-preserved
loop-heads-preserved c =
    let sets = c.args.sets.now in
    let i = c.loop-heads.heads-index in
    let at = slice_get_read sets (length sets) i c.heads-item.result refl c.loop-heads-test.true c.heads-item.is in
    let tells = TellsRow c.args.kinds in
    let rows = map (λ row. row.items) c.loop-heads.rows.items in
    subst (λ rows. MadeUpTo tells sets rows (i + 1)) (sym (ap (map (λ row. row.items)) c.in_ok-push.ensures.items ∙ map-append (λ row. row.items) c.loop-heads.rows.items (c.in_ok-met_row.field-0 ∷ [])))
    (one_more tells sets rows i c.heads-item.result c.in_ok-met_row.field-0.items c.loop-heads.invariant at c.in_ok-met_row.ensures)

pub returns : goal.returns
returns c r k heads at below =
    let sets = c.args.sets.now in
    let rows = map (λ row. row.items) c.loop-heads.rows.items in
    row_meets c.args.kinds heads rows r k below (all_made (TellsRow c.args.kinds) sets rows c.loop-heads.heads-index c.loop-heads.invariant c.loop-heads-test.false r heads at)
