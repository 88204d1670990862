use Rattle.std.proofs.Common.{take}
use Rattle.std.specs.List.{AllZip}
use Rattle.lw_build.specs.Readings.{present_texts_of}
use Rattle.lw_session.specs.Editing.{AreFileEdits}
use Rattle.lw_session.proofs.renaming.all_edits.Given as goal

abbrev pub invariant-files : goal.invariant-files
invariant-files l = AllZip (AreFileEdits (present_texts_of l.workspace.kept) l.new) (take l.file-index l.files) l.edits
