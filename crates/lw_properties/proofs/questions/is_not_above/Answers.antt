use Rattle.lw_properties.proofs.Asking.{refuted, refutes, ruled_out}
use Rattle.lw_properties.proofs.questions.is_not_above.Goals as goal

pub returns-then-is_declared : goal.returns-then-is_declared
returns-then-is_declared c =
    let g = c.args.known.now.g.now in
    let below = c.is_below.ensures g c.requires.subtypes in
    (λ so. (c.is_declared.ensures.0 c.if-is_declared.true, refuted c.is_below.result below.0 below.1 so), λ is. refutes c.is_below.result below.0 below.1 is.1)

pub returns-else-is_declared : goal.returns-else-is_declared
returns-else-is_declared c = (
  λ so. absurd (ruled_out c.is_declared.result c.is_declared.ensures.0 c.is_declared.ensures.1 c.if-is_declared.false (c.is_declared.ensures.0 so)),
  λ is. c.is_declared.ensures.1 is.0,
)
