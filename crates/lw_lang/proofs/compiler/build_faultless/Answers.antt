use Rattle.std.proofs.lemmas.Result.{err_from_is_err_and}
use Rattle.lw_terminals.proofs.EachPattern.{each_pattern}
use Rattle.lw_matchers.specs.TokenKinds.{TokenKinds}
use Rattle.lw_lang.specs.Language.{LanguageView}
use Rattle.lw_lang.proofs.BuildLemmas.{has_tokens, built_tokens, set_unlisted, few, want_causes, want_counts}
use Rattle.lw_lang.proofs.FirstPlaces.{can_be_told}
use Rattle.lw_lang.proofs.ToldLemmas.{told_causes, told_counts, told_keeps, sound_causes, sound_counts}
use Rattle.lw_lang.proofs.compiler.build_faultless.Goals as goal

pub token_set-requires-clause-written : goal.token_set-requires-clause-written
token_set-requires-clause-written g c = each_pattern c.args.grammar c.requires.formed c.requires.faultless.types c.requires.faultless.checks

pub token_set-requires-clause-few : goal.token_set-requires-clause-few
token_set-requires-clause-few g c = few c.args.grammar c.requires.fits

pub build_sound-requires-clause-tokens : goal.build_sound-requires-clause-tokens
build_sound-requires-clause-tokens g c =
    set_unlisted c.args.grammar c.in_ok-facts.facts.kinds c.in_ok-facts.ensures.kinds _ c.in-Ok.tokens c.in-Ok.ensures.made

pub returns-in-Ok-clause-tokens : goal.returns-in-Ok-clause-tokens
returns-in-Ok-clause-tokens g c =
    let has = has_tokens c.args.grammar c.in_ok-facts.facts.kinds c.in_ok-facts.ensures.kinds _ c.in-Ok.tokens c.in-Ok.ensures.made in
    built_tokens c.args.grammar _ has c.build_sound.result c.build_sound.ensures.grammar

pub returns-in-Ok-clause-fault : goal.returns-in-Ok-clause-fault
returns-in-Ok-clause-fault g c = sound_causes c.args.grammar c.args.texts.now c.args.k _ c.build_sound.result c.build_sound.ensures.fault

pub returns-in-Ok-clause-patterns : goal.returns-in-Ok-clause-patterns
returns-in-Ok-clause-patterns g c = sound_counts c.args.grammar c.args.texts.now c.args.k _ _ c.in-Ok.ensures.count c.build_sound.result c.build_sound.ensures.fault

pub fault_of-requires-clause-told : goal.fault_of-requires-clause-told
fault_of-requires-clause-told g c =
    can_be_told c.args.grammar c.args.texts.now c.requires.stand _ c.in_ok-facts.facts.kinds c.in_ok-facts.ensures.kinds _ c.in-Err.fault c.in-Err.ensures.fault

pub returns-in-Err-clause-fault : goal.returns-in-Err-clause-fault
returns-in-Err-clause-fault g c =
    told_causes c.args.grammar c.args.texts.now c.in-Err.fault c.args.k c.in_ok-facts.facts.kinds c.in_ok-facts.ensures.kinds c.requires.faultless _ _ c.in-Err.ensures.fault
    c.fault_of.result c.fault_of.ensures

pub returns-in-Err-clause-patterns : goal.returns-in-Err-clause-patterns
returns-in-Err-clause-patterns g c =
    told_counts c.args.grammar c.args.texts.now TokenKinds LanguageView _ _ c.in-Err.fault c.fault_of.result c.fault_of.ensures c.in-Err.ensures.count

pub returns-in-Err-clause-last : goal.returns-in-Err-clause-last
returns-in-Err-clause-last g c =
    told_keeps c.args.grammar c.args.texts.now TokenKinds LanguageView _ _ c.in-Err.fault c.fault_of.result c.fault_of.ensures c.in-Err.ensures.last

pub returns-in_err-facts-clause-fault : goal.returns-in_err-facts-clause-fault
returns-in_err-facts-clause-fault g c =
    let p = err_from_is_err_and c.from_residual.result c.from_residual.ensures.1 in
    want_causes c.args.grammar c.args.texts.now c.args.k _ c.from_residual.result p.0 p.1 p.2

pub returns-in_err-facts-clause-patterns : goal.returns-in_err-facts-clause-patterns
returns-in_err-facts-clause-patterns g c =
    let p = err_from_is_err_and c.from_residual.result c.from_residual.ensures.1 in want_counts _ c.from_residual.result p.0 p.1 p.2
