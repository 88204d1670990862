use Rattle.std.proofs.Common.{◌≡◌, ◌+◌, List, length, true}
use Rattle.std.specs.List.{range_with_len}
use Rattle.lw_build.specs.View.{documents}
use Rattle.lw_machine.specs.declared.published.Published.{Published}
use Rattle.lw_make.specs.Making.{AreEdited}
use Rattle.lw_make.specs.Unedited.{AreUnedited}
use Rattle.lw_make.proofs.making.making.edit_all.Given as goal

abbrev pub invariant-edits : goal.invariant-edits
invariant-edits g l = record {
  edited : (lists : List Published)
      × AreEdited l.fn.workspace.setting (documents l.fn.workspace) (range_with_len 0 l.number) (documents l.workspace) lists
      × (l.published ≡ l.first + length lists);
  unedited : AreUnedited l.count l.number (documents l.workspace);
  built : l.workspace.is_built ≡ true;
  setting : l.workspace.setting ≡ l.fn.workspace.setting;
}
