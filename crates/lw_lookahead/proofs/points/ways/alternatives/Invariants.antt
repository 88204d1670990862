use Rattle.std.proofs.Common.{map, take}
use Rattle.lw_grammar.specs.Kinds.{Kinds, AreKinds}
use Rattle.lw_look.specs.Sites.{Body}
use Rattle.lw_lookahead.specs.Ways.{AreWaysInto}
use Rattle.lw_lookahead.proofs.points.ways.alternatives.Given as goal

abbrev pub invariant-loop-part : goal.invariant-loop-part
invariant-loop-part l =
    (kinds : Kinds) → AreKinds l.first.lexicon.g.now kinds →
    AreWaysInto l.first.lexicon.g.now kinds l.first.k l.first.heads.now (map Body (take l.part-index l.parts)) l.after l.ways.items
