use Rattle.std.proofs.Common.{subst, sym, arith}
use Rattle.std.specs.List.{AllZip}
use Rattle.lw_build.specs.Readings.{present_texts_of}
use Rattle.lw_base.proofs.Rows.{zip_more}
use Rattle.lw_session.specs.Editing.{AreFileEdits}
use Rattle.lw_session.proofs.renaming.all_edits.Goals as goal

pub files-preserved : goal.files-preserved
files-preserved c =
    let texts = present_texts_of c.args.workspace.now.kept in
    subst (AllZip (AreFileEdits texts c.args.new.now) _) (sym c.in_ok-push.ensures.ok)
    (zip_more (AreFileEdits texts c.args.new.now) c.args.files.now c.files.edits c.files.file-index c.file-item.result c.in_ok-file_edits.field-0 (omega arith)
    c.file-item.is c.files.invariant c.in_ok-file_edits.ensures)
