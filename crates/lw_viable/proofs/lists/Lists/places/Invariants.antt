-- What was put so far, the latest first.
use Rattle.std.proofs.Common.{None, length, map, reverse}
use Rattle.lw_viable.specs.Growing.{GrowsLists, IsMadeFront, changed, read}
use Rattle.lw_viable.proofs.lists.Lists.places.Given as goal

abbrev pub invariant-loop-place : goal.invariant-loop-place
invariant-loop-place l = record {
  grows : GrowsLists l.fn.self l.self;
  made : IsMadeFront (length l.yielded) l.fn.self l.self l.fn.front l.made (changed (read l.fn.self l.fn.front) (None, reverse (map (λ p. p.now) l.yielded)));
}
