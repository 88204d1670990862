use Rattle.std.proofs.Common.{take}
use Rattle.std.specs.List.{AllZip}
use Rattle.lw_lookahead.specs.Seen.{AreEntriesOfChoice}
use Rattle.lw_lookahead.proofs.making.all_entries.Given as goal

abbrev pub invariant-loop-choice : goal.invariant-loop-choice
invariant-loop-choice l = AllZip (λ point entries. AreEntriesOfChoice l.k point entries.entries) (take l.choice-index l.choices) l.all.items
