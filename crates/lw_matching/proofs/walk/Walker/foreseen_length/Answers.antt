use Rattle.std.proofs.lemmas.Option.{IfSome_then}
use Rattle.lw_matching.proofs.SourceLemmas.{foreseen-source}
use Rattle.lw_matching.proofs.walk.Walker.foreseen_length.Goals as goal

pub returns-clause-foreseen : goal.returns-clause-foreseen
returns-clause-foreseen c =
    IfSome_then c.foreseen_match.result c.foreseen_match.ensures.foreseen
    (λ bytes foreseen pattern is. foreseen-source pattern c.args.nfa.now is c.args.text.now bytes foreseen)
