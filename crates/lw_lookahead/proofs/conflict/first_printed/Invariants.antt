use Rattle.std.proofs.Common.{take}
use Rattle.lw_grammar.specs.Kinds.{AreKinds, Kinds}
use Rattle.lw_grammar.specs.KindTexts.{texts_of}
use Rattle.lw_lookahead.specs.Shared.{IsFirstPrintedOf}
use Rattle.lw_lookahead.proofs.FirstPrinted.{IsOne}
use Rattle.lw_lookahead.proofs.conflict.first_printed.Given as goal

abbrev pub invariant-loop-head : goal.invariant-loop-head
invariant-loop-head l =
    (kinds : Kinds) → AreKinds l.lexicon.g.now kinds →
    IsFirstPrintedOf (texts_of kinds) l.k (IsOne (texts_of kinds) l.k l.ways.entries l.way (take l.head-index l.heads)) l.least
