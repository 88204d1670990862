use Rattle.std.proofs.Common.{take}
use Rattle.std.specs.List.{AllZip}
use Rattle.lw_conversation.specs.Asking.{IsEditOf}
use Rattle.lw_session.proofs.renaming.span_edits.Given as goal

abbrev pub invariant-spans : goal.invariant-spans
invariant-spans l = AllZip (IsEditOf l.text l.new) (take l.span-index l.spans) l.edits
