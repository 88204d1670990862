use Rattle.std.proofs.Common.{◌≡◌, ◌⊎◌, ◌∙◌, sym, subst, true, false}
use Rattle.lw_frame.specs.Frames.{bodies_of}
use Rattle.lw_frame.proofs.Streams.{fault_known, fault_truncated}
use Rattle.lw_frame.proofs.reading.fault_now.Goals as goal

pub returns-then-is_some : goal.returns-then-is_some
returns-then-is_some c =
    λ bytes r. fault_known c.args.fault bytes (bodies_of bytes) c.args.incoming.now c.args.closed r (subst (λ b. (b ≡ true) ⊎ ((b ≡ false) × (c.args.closed ≡ false))) c.is_some.ensures c.then-is_some.either)

pub returns : goal.returns
returns c =
    λ bytes r. c.truncation.ensures ∙ fault_truncated c.args.fault bytes (bodies_of bytes) c.args.incoming.now c.args.closed r (sym c.is_some.ensures ∙ c.if-is_some.false) c.if-not-closed.false
