use Rattle.std.proofs.lemmas.Result.{err_from_is_err_and}
use Rattle.lw_types.proofs.TypePhase.{none_found}
use Rattle.lw_types.proofs.inferring.infer.Goals as goal

pub returns-clause-none : goal.returns-clause-none
returns-clause-none c = none_found c.args.g.now (c.is_empty.ensures.0 c.if-not-is_empty.false) c.in_ok-found.ensures

pub returns-in_err-found-clause-faults : goal.returns-in_err-found-clause-faults
returns-in_err-found-clause-faults c =
    let p = err_from_is_err_and c.from_residual-in_err-found.result c.from_residual-in_err-found.ensures.1 in
    rw (p.1, p.2) tt
