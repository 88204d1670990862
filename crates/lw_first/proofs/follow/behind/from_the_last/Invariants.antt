use Rattle.std.proofs.Common.{◌≡◌, ◌+◌, ◌↔◌, ℕ, List, length, drop}
use Rattle.lw_grammar.specs.Kinds.{Kinds, AreKinds}
use Rattle.lw_first.specs.Sets.{IsAmongHeads}
use Rattle.lw_first.specs.Before.{RowCanBefore}
use Rattle.lw_first.specs.Rows.{AreFoundBehind}
use Rattle.lw_first.proofs.follow.behind.from_the_last.Given as goal

abbrev pub invariant-parts : goal.invariant-parts
invariant-parts l = record {
  left : length l.sets.items + l.place + 1 ≡ length l.parts;
  found : (kinds : Kinds) → AreKinds l.first.lexicon.g.now kinds →
      AreFoundBehind l.first.lexicon.g.now kinds l.first.k l.first.heads.now l.parts l.after l.sets.items;
  behind : (kinds : Kinds) → AreKinds l.first.lexicon.g.now kinds → (h : List ℕ) →
      IsAmongHeads l.behind h ↔ RowCanBefore l.first.lexicon.g.now kinds l.first.k l.first.heads.now (drop (l.place + 1) l.parts) l.after h;
}

abbrev pub decreases-parts : goal.decreases-parts
decreases-parts l = l.place
