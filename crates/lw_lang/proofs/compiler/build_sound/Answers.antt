use Rattle.std.proofs.Common.{sym, subst}
use Rattle.lw_look.specs.Supplied.{NodesAreTold}
use Rattle.lw_lang.proofs.BuildLemmas.{sound_tokens}
use Rattle.lw_lang.proofs.ChoicePlaces.{look_can_be_told}
use Rattle.lw_lang.proofs.LookLemmas.{nodes_told, has_tables, has_all_tables, has_cause}
use Rattle.lw_lang.proofs.ToldLemmas.{look_causes, language_causes}
use Rattle.lw_lang.proofs.compiler.build_sound.Goals as goal

pub tables-requires-clause-told : goal.tables-requires-clause-told
tables-requires-clause-told c = subst NodesAreTold (sym c.lexicon.ensures.grammar) (nodes_told c.args.grammar c.args.types.rules.nodes.items c.requires.typed.rules.nodes)

pub language_of-requires-clause-has : goal.language_of-requires-clause-has
language_of-requires-clause-has c =
    has_tables c.args.grammar _ c.lexicon.ensures.grammar c.requires.tokens.of c.requires.tokens.are c.args.k c.in-Ok.ensures.ll c.in-Ok.ensures.few

pub language_of-requires-clause-tables : goal.language_of-requires-clause-tables
language_of-requires-clause-tables c =
    has_all_tables c.args.grammar _ c.lexicon.ensures.grammar c.requires.tokens.of c.requires.tokens.are c.args.k c.in-Ok.tables c.in-Ok.ensures.tables

pub look_fault_of-requires-clause-told : goal.look_fault_of-requires-clause-told
look_fault_of-requires-clause-told c =
    let cause = has_cause c.args.grammar _ c.lexicon.ensures.grammar c.requires.tokens.of c.requires.tokens.are c.args.k c.in-Err.fault c.in-Err.ensures.fault in
    look_can_be_told c.args.grammar c.args.texts.now c.requires.stand c.requires.tokens.of c.args.k c.in-Err.fault cause

pub returns-in-Err-clause-fault : goal.returns-in-Err-clause-fault
returns-in-Err-clause-fault c =
    let cause = has_cause c.args.grammar _ c.lexicon.ensures.grammar c.requires.tokens.of c.requires.tokens.are c.args.k c.in-Err.fault c.in-Err.ensures.fault in
    look_causes c.args.grammar c.args.texts.now c.args.k
    (sound_tokens c.args.grammar c.args.facts.now.kinds c.requires.facts.kinds c.requires.faultless c.args.tokens c.requires.tokens)
    c.requires.tokens.of c.requires.tokens.are c.in-Err.fault cause c.look_fault_of.result c.look_fault_of.ensures

pub returns-in-Ok-clause-fault : goal.returns-in-Ok-clause-fault
returns-in-Ok-clause-fault c = language_causes c.args.grammar c.args.texts.now c.args.k c.language_of.result c.language_of.ensures.fault
