use Rattle.std.proofs.Common.{map, take}
use Rattle.lw_grammar.specs.Kinds.{Kinds, AreKinds}
use Rattle.lw_look.specs.Sites.{Value}
use Rattle.lw_lookahead.specs.Ways.{AreWaysInto}
use Rattle.lw_lookahead.proofs.points.ways.value_alternatives.Given as goal

abbrev pub invariant-loop-value : goal.invariant-loop-value
invariant-loop-value l =
    (kinds : Kinds) → AreKinds l.first.lexicon.g.now kinds →
    AreWaysInto l.first.lexicon.g.now kinds l.first.k l.first.heads.now (map Value (take l.value-index l.values)) l.after l.ways.items
