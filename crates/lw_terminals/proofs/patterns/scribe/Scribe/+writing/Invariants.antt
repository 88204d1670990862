use Rattle.std.proofs.Common.{take}
use Rattle.lw_tokens.specs.Patterns.{RowPattern}
use Rattle.lw_terminals.specs.Drafts.{Writes}
use Rattle.lw_terminals.proofs.WrittenForms.{ChoiceSoFar}
use Rattle.lw_terminals.proofs.patterns.scribe.Scribe.+writing.Given as goal

abbrev pub invariant-put_row-loop-part : goal.invariant-put_row-loop-part
invariant-put_row-loop-part l = Writes (RowPattern l.self.g.now (take l.part-index l.parts)) l.fn.draft l.draft

abbrev pub invariant-put_choice-loop-i : goal.invariant-put_choice-loop-i
invariant-put_choice-loop-i l = ChoiceSoFar l.self.g.now l.parts l.i l.fn.draft l.draft
