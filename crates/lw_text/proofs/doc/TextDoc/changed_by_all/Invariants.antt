use Rattle.std.proofs.Common.{take, unwrap_or}
use Rattle.lw_text.specs.Changes.{AreMade}
use Rattle.lw_text.proofs.doc.TextDoc.changed_by_all.Given as goal

abbrev pub invariant-loop-number : goal.invariant-loop-number
invariant-loop-number l = AreMade l.enc l.self (take l.number l.changes) (unwrap_or l.latest l.self)
