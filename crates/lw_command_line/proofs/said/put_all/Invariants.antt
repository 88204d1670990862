use Rattle.std.proofs.Common.{◌≡◌, ◌++◌, map, take}
use Rattle.lw_command_line.proofs.said.put_all.Given as goal

abbrev pub invariant-loop-word : goal.invariant-loop-word
invariant-loop-word l = map (λ word. word.now) l.operands.items ≡ map (λ word. word.now) l.initial.operands.items ++ take l.word-index l.words
