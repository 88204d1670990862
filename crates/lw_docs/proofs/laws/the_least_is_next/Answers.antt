use Rattle.lw_docs.proofs.Next.{next_of, built_of}
use Rattle.lw_docs.proofs.laws.the_least_is_next.Goals as goal

pub returns-clause-next : goal.returns-clause-next
returns-clause-next c = next_of

pub returns-clause-built : goal.returns-clause-built
returns-clause-built c = built_of
