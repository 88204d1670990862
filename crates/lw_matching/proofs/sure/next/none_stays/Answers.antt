use Rattle.lw_matching.proofs.NextLemmas.{all_stay}
use Rattle.lw_matching.proofs.sure.next.none_stays.Goals as goal

pub returns-then-none_begun-clause-stays : goal.returns-then-none_begun-clause-stays
returns-then-none_begun-clause-stays c =
    λ is. all_stay c.args.keywords.now c.args.nfas.now c.args.text.now (c.none_begun.ensures c.if-none_begun.true) (c.terminals_stay.ensures.stay is)
