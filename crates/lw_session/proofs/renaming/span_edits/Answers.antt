use Rattle.std.proofs.Common.{subst, sym, arith}
use Rattle.std.specs.List.{AllZip}
use Rattle.std.proofs.lemmas.List.{get_or_default}
use Rattle.lw_conversation.specs.Asking.{IsEditOf}
use Rattle.lw_base.proofs.Rows.{zip_more}
use Rattle.lw_session.proofs.renaming.span_edits.Goals as goal

pub spans-preserved : goal.spans-preserved
spans-preserved c =
    subst (AllZip (IsEditOf c.args.text.now c.args.new.now) _) (sym c.in_ok-push.ensures.ok)
    (zip_more (IsEditOf c.args.text.now c.args.new.now) c.args.spans.now c.spans.edits c.spans.span-index _ c.in_ok-span_edit.field-0 (omega arith)
    (get_or_default c.args.spans.now c.spans.span-index _ _ (omega arith)) c.spans.invariant c.in_ok-span_edit.ensures)
