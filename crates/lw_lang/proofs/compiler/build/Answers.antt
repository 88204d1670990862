use Rattle.lw_lang.specs.Language.{LanguageView}
use Rattle.lw_lang.proofs.JudgeLemmas.{judged_causes, judged_counts, judged_keeps}
use Rattle.lw_lang.proofs.compiler.build.Goals as goal

pub returns-in-Err-clause-fault : goal.returns-in-Err-clause-fault
returns-in-Err-clause-fault g c = judged_causes c.args.grammar c.args.texts.now c.args.k _ c.in-Err.fault c.in-Err.ensures.faults

pub returns-in-Err-clause-patterns : goal.returns-in-Err-clause-patterns
returns-in-Err-clause-patterns g c = judged_counts c.args.grammar c.args.texts.now LanguageView _ c.in-Err.fault c.in-Err.ensures.faults

pub returns-in-Err-clause-last : goal.returns-in-Err-clause-last
returns-in-Err-clause-last g c = judged_keeps c.args.grammar c.args.texts.now LanguageView _ c.in-Err.fault c.in-Err.ensures.faults
