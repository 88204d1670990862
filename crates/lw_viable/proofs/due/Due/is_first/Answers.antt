-- Where no value is put first, no reference is.
use Rattle.std.proofs.Common.{sym, subst, true≢false}
use Rattle.lw_viable.specs.Growing.{read}
use Rattle.lw_viable.specs.Visiting.{StandsFirst}
use Rattle.lw_viable.proofs.due.Due.is_first.Goals as goal

pub returns-in-None : goal.returns-in-None
returns-in-None c = (
  λ is. absurd (true≢false (sym is)),
  λ stands.
      let (put, value, behind, puts, refers) = subst (λ due. StandsFirst c.args.program.now due (read c.args.lists.now c.args.front).rest) c.in-Reference.is stands in
      absurd (c.in-None.ensures put value behind puts),
)
