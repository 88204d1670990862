use Rattle.std.proofs.Common.{◌≡◌, ◌+◌, ◌-◌, ◌≤◌, length, take, drop}
use Rattle.lw_grammar.specs.Kinds.{Kinds, AreKinds}
use Rattle.lw_first.specs.Sets.{AddsHeads, most_heads}
use Rattle.lw_first.specs.Forms.{ChosenBefore}
use Rattle.lw_first.proofs.RowForms.{IsRowSet}
use Rattle.lw_first.proofs.Turns.{IsMet}
use Rattle.lw_first.proofs.first.First.+elements.Given as goal

abbrev pub invariant-row-parts : goal.invariant-row-parts
invariant-row-parts l = record {
  within : l.left ≤ length l.parts;
  told : (kinds : Kinds) → AreKinds l.self.lexicon.g.now kinds →
      IsRowSet l.self.lexicon.g.now kinds l.self.k l.self.heads.now l.after (drop l.left l.parts) l.behind;
}

abbrev pub decreases-row-parts : goal.decreases-row-parts
decreases-row-parts l = l.left

abbrev pub invariant-choice-loop-part : goal.invariant-choice-loop-part
invariant-choice-loop-part l = (kinds : Kinds) → AreKinds l.self.lexicon.g.now kinds →
    AddsHeads (ChosenBefore l.self.lexicon.g.now kinds l.self.k l.self.heads.now (take l.part-index l.parts) l.after) l.fn.into l.into

abbrev pub invariant-repeated-turns : goal.invariant-repeated-turns
invariant-repeated-turns l = record {
  count : length l.met ≡ l.done + length l.fresh.items;
  told : (kinds : Kinds) → AreKinds l.self.lexicon.g.now kinds →
      IsMet l.self.lexicon.g.now kinds l.self.k l.self.heads.now l.part l.after l.fresh.items l.met;
}

abbrev pub decreases-repeated-turns : goal.decreases-repeated-turns
decreases-repeated-turns l = most_heads - l.done
