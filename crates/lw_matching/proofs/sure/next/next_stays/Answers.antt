use Rattle.std.proofs.Common.{sym, subst}
use Rattle.lw_matching.specs.Next.{NextStays}
use Rattle.lw_matching.proofs.NextLemmas.{some_stays}
use Rattle.lw_matching.proofs.sure.next.next_stays.Goals as goal

pub returns-in-Some-clause-stays : goal.returns-in-Some-clause-stays
returns-in-Some-clause-stays c =
    λ is. subst (NextStays c.args.keywords.now c.args.nfas.now c.args.text.now) (sym c.in-Some.is)
    (some_stays c.args.keywords.now c.args.nfas.now c.args.text.now (c.token_stays.ensures.keywords is) c.in-Some.kind (c.token_stays.ensures.terminals is))
