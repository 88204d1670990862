use Rattle.lw_matching.proofs.lengths.known.KnownLengths.find_lengths.Goals as goal

pub invariant_of-self : goal.invariant_of-self
invariant_of-self c = (
  c.self.invariant.0,
  c.self.invariant.1,
  (rw c.in-Ok-Some.field-0-is at c.in-Ok-Some.ensures.lengths) c.self.inside.pattern.now c.self.invariant.0,
)
