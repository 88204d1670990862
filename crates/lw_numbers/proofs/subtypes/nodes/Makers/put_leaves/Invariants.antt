use Rattle.std.proofs.Common.{◌≡◌, length, map}
use Rattle.lw_numbers.specs.Parts.{leaf_of}
use Rattle.lw_numbers.specs.Makers.{LeafCalls, MakesOne}
use Rattle.lw_numbers.proofs.Making.{PutsFirst}
use Rattle.lw_numbers.proofs.subtypes.nodes.Makers.put_leaves.Given as goal

abbrev pub invariant-loop-leaf : goal.invariant-loop-leaf
invariant-loop-leaf l = record {
  nodes : l.self.callers.nodes ≡ length l.g.rules;
  puts :
      PutsFirst (map leaf_of l.found) (λ k leaf from to. LeafCalls l.g leaf from × (to ≡ l.rule)) (λ k leaf r. MakesOne leaf × (r ≡ l.rule)) l.leaf-index l.initial.self l.self;
}
