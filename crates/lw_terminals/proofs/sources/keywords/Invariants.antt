use Rattle.std.proofs.Common.{◌≡◌, take}
use Rattle.lw_kinds.proofs.FirstTexts.{texts_of}
use Rattle.lw_terminals.proofs.sources.keywords.Given as goal

abbrev pub invariant-loop-k : goal.invariant-loop-k
invariant-loop-k l = l.texts.items ≡ texts_of (take l.k l.kinds.keywords)
