use Rattle.std.proofs.lemmas.Result.{err_from_is_err_and}
use Rattle.lw_lang.proofs.CompileLemmas.{load_faults, built_holds, built_faults}
use Rattle.lw_lang.proofs.compiler.compile.Goals as goal

pub returns-in_err-loaded-clause-fault : goal.returns-in_err-loaded-clause-fault
returns-in_err-loaded-clause-fault g c =
    let p = err_from_is_err_and c.from_residual.result c.from_residual.ensures.1 in
    load_faults _ c.args.root.now c.args.k _ c.in_err-loaded.field-0.0 p.0 c.from_residual.result p.1 p.2 c.in_err-loaded.ensures.fault c.in_err-loaded.ensures.nothing

pub returns-clause-holds : goal.returns-clause-holds
returns-clause-holds g c =
    built_holds _ c.args.root.now c.in_ok-loaded.loaded c.in_ok-loaded.ensures.loads c.in_ok-loaded.ensures.only c.build.result c.build.ensures.grammar

pub returns-clause-fault : goal.returns-clause-fault
returns-clause-fault g c =
    built_faults _ c.args.root.now c.in_ok-loaded.loaded c.in_ok-loaded.ensures.loads c.in_ok-loaded.ensures.only c.as_slice.result.now c.as_slice.ensures c.args.k _ c.build.result
    c.build.ensures.fault
